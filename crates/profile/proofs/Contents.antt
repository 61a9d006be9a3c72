-- PROFILE 8.3: each right holds what it held at first or what its installation sent, and the count last given to it. It holds of every history, whatever
-- the agent does.
use Prim.Native.Nat.{ℕ, zero, suc, ◌+◌}
use mathlib.Core.Path.{◌≡◌, refl, sym, ap, ap₂, ◌∙◌}
use mathlib.Core.List.{List, [], ◌∷◌, ◌++◌, map, append-nil}
use mathlib.Core.Option.{some, some-injective}
use mathlib.Core.Bool.{Bool, true, false, ◌&&◌}
use native.Mathlib.Omega.{arith}
use native.Mathlib.Nat.{zero-add}
use lib.Dec.{eqb}
use lib.ListN.{length, get_elem?, length-map, length-append}
use Rattle.std.specs.Prelude.{if◌then◌else◌}
use Rattle.profile.specs.Bytes.{Bytes, same}
use Rattle.profile.specs.Slot.{Count, Right, recount}
use Rattle.profile.specs.Request.{Request, setup, install, retrieve, rek, enable, remove, cancel, list, info}
use Rattle.profile.specs.History.{Owned, for_use, lent, gone, Ledger, lend, give_back, end, tell, Exchange, history}
use Rattle.profile.specs.Contents.{Installed, installed, installations, follow, last_count, held, Holds, Contents}
use Rattle.profile.proofs.Logic.{if_both}
use Rattle.profile.proofs.Mirror.{not_none}

-- ---- what exchanges make of one right
abbrev turn : Request → Owned → Owned
turn (setup h n) o = o
turn (install h r) o = o
turn (retrieve h k) o = lend h k o
turn (rek h k) o = lend h k o
turn (enable h c) o = give_back h c o
turn (remove h) o = end h o
turn (cancel h) o = o
turn (list limit q) o = o
turn (info h) o = o

abbrev onward : Owned → List Exchange → Owned
onward o [] = o
onward o (x ∷ xs) = if eqb x.status 0 then onward (turn x.request o) xs else onward o xs

-- and of an installed one
abbrev since : Installed → Owned
since p = onward (for_use p.handle p.right) p.later

map_same : (rs : List Owned) → map (λ (o : Owned). o) rs ≡ rs
map_same [] = refl
map_same (o ∷ rs) = ap {B = List Owned} (λ r. o ∷ r) (map_same rs)

map_twice : (f g : Owned → Owned) (rs : List Owned) → map f (map g rs) ≡ map (λ (o : Owned). f (g o)) rs
map_twice f g [] = refl
map_twice f g (o ∷ rs) = ap {B = List Owned} (λ r. f (g o) ∷ r) (map_twice f g rs)

map_one_more : (f : Owned → Owned) (rs : List Owned) (o : Owned) (ys : List Owned) → map f (rs ++ (o ∷ [])) ++ ys ≡ map f rs ++ (f o ∷ ys)
map_one_more f [] o ys = refl
map_one_more f (x ∷ rs) o ys = ap {B = List Owned} (λ r. f x ∷ r) (map_one_more f rs o ys)

-- the rights after some exchanges: those there were, and those installed, each with what it went through since
rights_then : (l : Ledger) (xs : List Exchange) → (history l xs).rights ≡ map (λ (o : Owned). onward o xs) l.rights ++ map since (installations xs)
rights_then l [] = sym (append-nil (map (λ (o : Owned). o) l.rights) ∙ map_same l.rights)
rights_then l (x ∷ xs) = go (eqb x.status 0) x.request (rights_then l xs) (λ q. rights_then (tell l q) xs)
  where
    Goal : Bool → Request → Type 0
    Goal b q =
        (history (if b then tell l q else l) xs).rights
        ≡ map (λ (o : Owned). if b then onward (turn q o) xs else onward o xs) l.rights ++ map since ((if b then installed q xs else []) ++ installations xs)

    turned : (g : Owned → Owned)
        → map (λ (o : Owned). onward o xs) (map g l.rights) ++ map since (installations xs) ≡ map (λ (o : Owned). onward (g o) xs) l.rights ++ map since (installations xs)
    turned g = ap (λ (rs : List Owned). rs ++ map since (installations xs)) (map_twice (λ (o : Owned). onward o xs) g l.rights)

    go : (b : Bool) (q : Request) → ((history l xs).rights ≡ map (λ (o : Owned). onward o xs) l.rights ++ map since (installations xs))
        → ((q : Request) → (history (tell l q) xs).rights ≡ map (λ (o : Owned). onward o xs) (tell l q).rights ++ map since (installations xs)) → Goal b q
    go false q same_ledger told-ledger = same_ledger
    go true (setup h n) same_ledger told-ledger = told-ledger (setup h n)
    go true (install h r) same_ledger told-ledger = told-ledger (install h r) ∙ map_one_more (λ (o : Owned). onward o xs) l.rights (for_use h r) (map since (installations xs))
    go true (retrieve h k) same_ledger told-ledger = told-ledger (retrieve h k) ∙ turned (lend h k)
    go true (rek h k) same_ledger told-ledger = told-ledger (rek h k) ∙ turned (lend h k)
    go true (enable h c) same_ledger told-ledger = told-ledger (enable h c) ∙ turned (give_back h c)
    go true (remove h) same_ledger told-ledger = told-ledger (remove h) ∙ turned (end h)
    go true (cancel h) same_ledger told-ledger = told-ledger (cancel h)
    go true (list limit q) same_ledger told-ledger = told-ledger (list limit q)
    go true (info h) same_ledger told-ledger = told-ledger (info h)

-- ---- what it holds then
-- s has the key, hashes and payload of r, and the count c
record Kept (r s : Right) (c : Count) : Type 0 where
  key : s.key ≡ r.key
  hashes : s.hashes ≡ r.hashes
  payload : s.payload ≡ r.payload
  count : s.count ≡ c

kept_right : (r : Right) → Kept r r r.count
kept_right r = record { key = refl; hashes = refl; payload = refl; count = refl }

module _ (xs : List Exchange) where
  abbrev KeptOn : Right → Owned → Count → Type 0
  KeptOn r o c = Kept r (held (onward o xs)) c

  pick : (b : Bool) (r : Right) (o u : Owned) (c d : Count) → KeptOn r o c → KeptOn r u d → KeptOn r (if b then o else u) (if b then c else d)
  pick true r o u c d p q = p
  pick false r o u c d p q = q

  pick_lent : (b : Bool) (r : Right) (o u : Owned) (c d : Count) → KeptOn r o c → KeptOn r u d → KeptOn r (if b then o else u) (if b && true then c else d)
  pick_lent true r o u c d p q = p
  pick_lent false r o u c d p q = q

  -- a return leaves a right for use
  pick_none : (b : Bool) (r : Right) (o : Owned) (c d : Count) → KeptOn r o d → KeptOn r o (if b && false then c else d)
  pick_none true r o c d p = p
  pick_none false r o c d p = p

  module _ (used : (h : Bytes) (r : Right) → KeptOn r (for_use h r) (last_count h false r.count xs))
      (out : (h : Bytes) (r : Right) → KeptOn r (lent h r) (last_count h true r.count xs))
      (over : (r : Right) → KeptOn r (gone r) r.count) where
    abbrev on : Bytes → Bool → Count → Count
    on h isLent c = last_count h isLent c xs

    turn_used : (q : Request) (h : Bytes) (r : Right) → KeptOn r (turn q (for_use h r)) (follow h false r.count q on)
    turn_used (setup g n) h r = used h r
    turn_used (install g s) h r = used h r
    turn_used (retrieve g k) h r = pick (same g h) r (lent k r) (for_use h r) _ _ (out k r) (used h r)
    turn_used (rek g k) h r = pick (same g h) r (lent k r) (for_use h r) _ _ (out k r) (used h r)
    turn_used (enable g d) h r = pick_none (same g h) r (for_use h r) _ _ (used h r)
    turn_used (remove g) h r = pick (same g h) r (gone r) (for_use h r) _ _ (over r) (used h r)
    turn_used (cancel g) h r = used h r
    turn_used (list limit q) h r = used h r
    turn_used (info g) h r = used h r

    returned : (h : Bytes) (d : Count) (r : Right) → KeptOn r (for_use h (recount d r)) (last_count h false d xs)
    returned h d r =
        let k = used h (recount d r) in
        record { key = k.key; hashes = k.hashes; payload = k.payload; count = k.count }

    turn_out : (q : Request) (h : Bytes) (r : Right) → KeptOn r (turn q (lent h r)) (follow h true r.count q on)
    turn_out (setup g n) h r = out h r
    turn_out (install g s) h r = out h r
    turn_out (retrieve g k) h r = pick (same g h) r (lent k r) (lent h r) _ _ (out k r) (out h r)
    turn_out (rek g k) h r = pick (same g h) r (lent k r) (lent h r) _ _ (out k r) (out h r)
    turn_out (enable g d) h r = pick_lent (same g h) r (for_use h (recount d r)) (lent h r) _ _ (returned h d r) (out h r)
    turn_out (remove g) h r = pick (same g h) r (gone r) (lent h r) _ _ (over r) (out h r)
    turn_out (cancel g) h r = out h r
    turn_out (list limit q) h r = out h r
    turn_out (info g) h r = out h r

turn_gone : (q : Request) (r : Right) → turn q (gone r) ≡ gone r
turn_gone (setup h n) r = refl
turn_gone (install h s) r = refl
turn_gone (retrieve h k) r = refl
turn_gone (rek h k) r = refl
turn_gone (enable h c) r = refl
turn_gone (remove h) r = refl
turn_gone (cancel h) r = refl
turn_gone (list limit q) r = refl
turn_gone (info h) r = refl

record KeptAll (xs : List Exchange) : Type 0 where
  used : (h : Bytes) (r : Right) → Kept r (held (onward (for_use h r) xs)) (last_count h false r.count xs)
  out : (h : Bytes) (r : Right) → Kept r (held (onward (lent h r) xs)) (last_count h true r.count xs)
  over : (r : Right) → Kept r (held (onward (gone r) xs)) r.count

kept_all : (xs : List Exchange) → KeptAll xs
kept_all [] = record { used = λ h r. kept_right r; out = λ h r. kept_right r; over = λ r. kept_right r }
kept_all (x ∷ xs) = go (kept_all xs)
  where
    if_told : (b : Bool) (r : Right) (o u : Owned) (c d : Count) → Kept r (held (onward o xs)) c → Kept r (held (onward u xs)) d
        → Kept r (held (if b then onward o xs else onward u xs)) (if b then c else d)
    if_told true r o u c d p q = p
    if_told false r o u c d p q = q

    go : KeptAll xs → KeptAll (x ∷ xs)
    go k =
        record {
          used = λ h r. if_told (eqb x.status 0) r (turn x.request (for_use h r)) (for_use h r) _ _ (turn_used xs k.used k.out k.over x.request h r) (k.used h r);
          out = λ h r. if_told (eqb x.status 0) r (turn x.request (lent h r)) (lent h r) _ _ (turn_out xs k.used k.out k.over x.request h r) (k.out h r);
          over = λ r. rw (turn_gone x.request r) (if_both (λ (o : Owned). Kept r (held o) r.count) (eqb x.status 0) (k.over r) (k.over r));
        }

-- ---- the right of a number
nth_since : (ps : List Installed) (i : ℕ) (o : Owned) (p : Installed) → get_elem? (map since ps) i ≡ some o → get_elem? ps i ≡ some p → o ≡ since p
nth_since [] i o p e f = absurd (not_none e)
nth_since (x ∷ ps) zero o p e f = sym (some-injective (since x) o e) ∙ ap since (some-injective x p f)
nth_since (x ∷ ps) (suc i) o p e f = nth_since ps i o p e f

nth_first : (g : Owned → Owned) (rs ys : List Owned) (i : ℕ) (u o : Owned) → get_elem? rs i ≡ some u → get_elem? (map g rs ++ ys) i ≡ some o → o ≡ g u
nth_first g [] ys i u o e f = absurd (not_none e)
nth_first g (x ∷ rs) ys zero u o e f = sym (some-injective (g x) o f) ∙ ap g (some-injective x u e)
nth_first g (x ∷ rs) ys (suc i) u o e f = nth_first g rs ys i u o e f

nth_later : (g : Owned → Owned) (rs ys : List Owned) (i : ℕ) → get_elem? (map g rs ++ ys) (length rs + i) ≡ get_elem? ys i
nth_later g [] ys i = rw (zero-add i)
nth_later g (x ∷ rs) ys i =
    let e : length (x ∷ rs) + i ≡ suc (length rs + i) = omega arith in
    rw e (nth_later g rs ys i)

-- what a right holds after some exchanges, whatever it was before them
holds_after : (u : Owned) (xs : List Exchange) → Holds u xs (held (onward u xs))
holds_after (for_use h r) xs =
    let k = (kept_all xs).used h r in
    record { key = k.key; hashes = k.hashes; payload = k.payload; count = k.count }
holds_after (lent h r) xs =
    let k = (kept_all xs).out h r in
    record { key = k.key; hashes = k.hashes; payload = k.payload; count = k.count }
holds_after (gone r) xs =
    let k = (kept_all xs).over r in
    record { key = k.key; hashes = k.hashes; payload = k.payload; count = k.count }

pub contents : (l : Ledger) (xs : List Exchange) → Contents l xs (history l xs)
contents l xs =
    record {
      as_many =
          ap (λ (rs : List Owned). length rs) (rights_then l xs)
          ∙ length-append (map (λ (o : Owned). onward o xs) l.rights) (map since (installations xs))
          ∙ ap₂ (λ (m n : ℕ). m + n) (length-map l.rights (λ (o : Owned). onward o xs)) (length-map (installations xs) since);
      stood = λ i u o e f.
          rw (nth_first (λ (o : Owned). onward o xs) l.rights (map since (installations xs)) i u o e (rw (rights_then l xs) at f))
          (holds_after u xs);
      came = λ i o p e f.
          rw (nth_since (installations xs) i o p (sym (nth_later (λ (o : Owned). onward o xs) l.rights (map since (installations xs)) i) ∙ (rw (rights_then l xs) at e)) f)
          (holds_after (for_use p.handle p.right) p.later);
    }
