-- PROFILE 2.9 and 8.6: what is open to a right whatever its hashes; no call brings a right without a hash; from an all-zero table every right has one.
use Prim.Native.Nat.{ℕ, zero, suc, ◌≤◌}
use mathlib.Core.Path.{◌≡◌, refl, sym, ap, ◌∙◌}
use mathlib.Core.Logic.{◌⊎◌, inl, inr}
use mathlib.Core.List.{List, [], ◌∷◌, ◌++◌, append-nil}
use mathlib.Core.Option.{Option, some, some-injective}
use mathlib.Core.Bool.{Bool, true}
use native.Mathlib.Omega.{arith}
use lib.ListN.{length, get_elem?, set, replicate}
use Rattle.profile.specs.Bytes.{Bytes, Bytes256}
use Rattle.profile.specs.Slot.{Right, recount, Entry, reserved, enabled, disabled, Slot, empty, taken, distinct, TableFits}
use Rattle.profile.specs.Table.{slots_of, table_of, whole_slots, well_table}
use Rattle.profile.specs.Request.{Request, setup, install, retrieve, rek, enable, remove, cancel, list, info, RequestFits}
use Rattle.profile.specs.Agent.{Given, handles, Answer, done, Found, absent, one, find, act, Call, Outcome, agent}
use Rattle.profile.specs.History.{Exchange}
use Rattle.profile.specs.Run.{table_then, blank_table, table_after_all}
use Rattle.profile.specs.Laws.{AskedFor, FoundIs}
use Rattle.profile.specs.Unlisted.{Listed, OpenToUse, OpenToReturn, slot_right, HoldsRight, HoldsRightBut, FoundByCourse}
use Rattle.profile.proofs.FirstEmpty.{not_there}
use Rattle.profile.proofs.Laws.{apart, found_is}
use Rattle.profile.proofs.ListLaws.{lists_exactly}
use Rattle.profile.proofs.Tables.{slots_table, table_slots}
use Rattle.profile.proofs.WellFormed.{table_fits}
use Rattle.profile.proofs.Requests.{read_fits}
use Rattle.profile.proofs.Fitting.{fitting, blank_fits}
use Rattle.profile.proofs.Steps.{Turns, Stays, LendsOut, Returns, Does}
use Rattle.profile.proofs.Calls.{Comes, comes}
use Rattle.profile.proofs.Sound.{zeros_table}
use Rattle.profile.proofs.CountOrder.{raise_means}

-- ---- PROFILE 2.9
-- the list without a limit, of all or by a hash, has the handle of an enabled record that is asked for
listed : (free : ℕ) (t : List Slot) (q : List Bytes) (i : ℕ) (h : Bytes) (r : Right) → get_elem? t i ≡ some (taken h (enabled r)) → AskedFor q r → Listed free t q h
listed free t q i h r e a =
    let l = lists_exactly free t 0 q in
    let w = l.2.limited in
    let whole : l.2.all ≡ w.first = w.parts ∙ ap (λ (x : List Bytes). w.first ++ x) (w.unlimited refl) ∙ append-nil w.first in
    record {
      all = w.first;
      gives = l.1 ∙ ap {B = Answer} (λ (g : Given). done g t) (w.gives ∙ ap {B = Given} (λ (b : Bool). handles b w.first) (w.says_all (w.unlimited refl)));
      has = rw (← whole) ((l.2.exact h).1 (record { slot = i; right = r; stands = e; asked = a }));
    }

entry_in : Entry → Slot → Entry
entry_in d empty = d
entry_in d (taken h e) = e

same_entry : {h k : Bytes} {e f : Entry} → Path (Option Slot) (some (taken h e)) (some (taken k f)) → e ≡ f
unfolding entry_in
same_entry {h} {k} {e} {f} p = ap (entry_in e) (some-injective (taken h e) (taken k f) p)

-- a record is found under its handle, in its slot
pub find_at : (t : List Slot) → distinct t ≡ true → (i : ℕ) (h : Bytes) (e : Entry) → get_elem? t i ≡ some (taken h e) → find h t ≡ one i e
find_at t d i h e p = go (find h t) (found_is h t)
  where
    go : (x : Found) → FoundIs h t x → x ≡ one i e
    go absent f = absurd (f i e p)
    go (one j g) f =
        let n : j ≡ i = apart t d j i h g e f p in
        rw n (ap {B = Found} (one i) (same_entry (sym (rw n at f) ∙ p)))

module _ (free : ℕ) (t : List Slot) (d : distinct t ≡ true) (i : ℕ) (h : Bytes) (r : Right) where
  pub in_use_lem : get_elem? t i ≡ some (taken h (enabled r)) → OpenToUse free t i h r
  unfolding act
  in_use_lem e =
      let f = find_at t d i h (enabled r) e in
      record {
        is_listed = listed free t [] i h r e (inl refl);
        is_read = rw f;
        is_lent = λ k u. rw (f, u);
        is_retrieved = λ k u. rw (f, u);
        is_removed = rw f;
      }

  pub when_lent : get_elem? t i ≡ some (taken h (disabled r)) → OpenToReturn free t i h r
  unfolding act
  when_lent e =
      let f = find_at t d i h (disabled r) e in
      record { is_returned = λ c n. rw (f, (raise_means r.count c).1 n); is_removed = rw f }

-- ---- PROFILE 8.6: slots, before and after
-- what stands in a slot after one slot was set: what stood there, or what was set there
pub set_at : (t : List Slot) (at i : ℕ) (s x : Slot) → get_elem? (set t at s) i ≡ some x → (get_elem? t i ≡ some x) ⊎ ((at ≡ i) × (s ≡ x))
set_at [] at i s x e = inl e
set_at (y ∷ t) zero zero s x e = inr (refl, some-injective s x e)
set_at (y ∷ t) zero (suc i) s x e = inl e
set_at (y ∷ t) (suc at) zero s x e = inl e
set_at (y ∷ t) (suc at) (suc i) s x e = next (set_at t at i s x e)
  where
    next : ((get_elem? t i ≡ some x) ⊎ ((at ≡ i) × (s ≡ x))) → (get_elem? t i ≡ some x) ⊎ ((suc at ≡ suc i) × (s ≡ x))
    next (inl p) = inl p
    next (inr p) = inr (ap suc p.0, p.1)

-- a right is itself with its own count, also after it was given another one
stands_but : {t : List Slot} {i : ℕ} {r : Right} → HoldsRight t i r → HoldsRightBut t i r
stands_but {r = r} w = record { count = r.count; stands = w }

-- what was set, told by what stood there
pub found_at : {t : List Slot} {h : Bytes} {e : Entry} {s : Slot} {u : List Slot} (d : Turns t h e s u) → get_elem? t d.at ≡ some (taken h e)
found_at {t} {h} {e} d = rw d.found at (found_is h t)

module _ (t : List Slot) (r : Right) (bare : r.hashes ≡ []) (i : ℕ) where
  set_but : (at : ℕ) (s : Slot) (u : List Slot) → u ≡ set t at s → (slot_right s ≡ some r → HoldsRightBut t at r) → HoldsRight u i r → HoldsRightBut t i r
  set_but at s u e k w = go (set_at t at i s w.slot (rw e at w.there))
    where
      go : (get_elem? t i ≡ some w.slot) ⊎ ((at ≡ i) × (s ≡ w.slot)) → HoldsRightBut t i r
      go (inl p) = stands_but (record { slot = w.slot; there = p; holds = w.holds })
      go (inr p) = rw p.0 at (k (ap slot_right p.1 ∙ w.holds))

  same_but : (u : List Slot) → u ≡ t → HoldsRight u i r → HoldsRightBut t i r
  same_but u e w = stands_but (rw e at w)

  lent_but : (h k : Bytes) (give : Right → Given) (g : Given) (u : List Slot) → LendsOut t h k give g u → HoldsRight u i r → HoldsRightBut t i r
  lent_but h k give g u d w =
      set_but d.turns.at (taken k (disabled d.right)) u d.turns.after
      (λ p. stands_but (record { slot = taken h (enabled d.right); there = found_at d.turns; holds = p })) w

  does_but : (free : ℕ) (q : Request) → RequestFits q → (g : Given) (u : List Slot) → Does free t q g u → HoldsRight u i r → HoldsRightBut t i r
  does_but free (setup h n) z g u d w = set_but free (taken h (reserved n)) u d.after (λ p. absurd (not_there p)) w
  does_but free (install h x) z g u d w =
      set_but d.turns.at (taken h (enabled x)) u d.turns.after
      (λ p. absurd (omega (arith, z.1.some_hash, ap (λ (y : Right). length y.hashes) (some-injective x r p), ap length bare))) w
  does_but free (retrieve h k) z g u d w = lent_but h k _ g u d w
  does_but free (rek h k) z g u d w = lent_but h k _ g u d w
  does_but free (enable h c) z g u d w = go d.did
    where
      go : ((x : Right) × Stays t h (enabled x) u) ⊎ Returns t h c u → HoldsRightBut t i r
      go (inl x) = same_but u x.1.after w
      go (inr x) =
          set_but x.turns.at (taken h (enabled (recount c x.right))) u x.turns.after
          (λ p.
          record {
            count = x.right.count;
            stands =
                record {
                  slot = taken h (disabled x.right);
                  there = found_at x.turns;
                  holds = ap {B = Option Right} (λ (y : Right). some (recount x.right.count y)) (some-injective (recount c x.right) r p);
                };
          })
          w
  does_but free (remove h) z g u d w = set_but d.turns.at empty u d.turns.after (λ p. absurd (not_there p)) w
  does_but free (cancel h) z g u d w = set_but d.turns.at empty u d.turns.after (λ p. absurd (not_there p)) w
  does_but free (list limit q) z g u d w = same_but u d.after w
  does_but free (info h) z g u d w = same_but u d.stays.after w

-- ---- a call on packed slots leaves packed slots, on which no right without a hash stands that did not stand there
record Leaves (t : List Slot) (table : Bytes) : Type 0 where
  slots : List Slot
  packed : table ≡ table_of slots
  fits : TableFits slots
  no_other : (r : Right) → r.hashes ≡ [] → (i : ℕ) → HoldsRight slots i r → HoldsRightBut t i r

leaves : (t : List Slot) → TableFits t → (c : Call) → Leaves t (agent (table_of t) c).table
leaves t f c = go (agent (table_of t) c) (comes t f c)
  where
    go : {xs : List Exchange} (o : Outcome) → Comes t c xs o → Leaves t o.table
    go o (inl d) = record { slots = t; packed = d.after; fits = f; no_other = λ r e i w. stands_but w }
    go o (inr d) =
        let z = read_fits c.request d.asked d.read in
        record {
          slots = d.slots;
          packed = d.after;
          fits = (fitting t f d.free d.asked z d.given d.slots d.does).0;
          no_other = λ r e i w. does_but t r e i d.free d.asked z d.given d.slots d.does w;
        }

pub none_comes : (table : Bytes) → Bytes256 table → whole_slots table ≡ true → well_table table ≡ true → (c : Call) (i : ℕ) (r : Right)
    → r.hashes ≡ [] → HoldsRight (slots_of (agent table c).table) i r → HoldsRightBut (slots_of table) i r
none_comes table y whole well c i r e w =
    let t = slots_of table in
    let l : Leaves t (agent table c).table = rw (table_slots table y whole well) at (leaves t (table_fits table whole well) c) in
    l.no_other r e i (rw (l.packed, slots_table l.slots l.fits) at w)

-- ---- from an all-zero table
-- packed slots on which each right has a hash
record AllHashed (table : Bytes) : Type 0 where
  slots : List Slot
  packed : table ≡ table_of slots
  fits : TableFits slots
  none_bare : (r : Right) → r.hashes ≡ [] → (i : ℕ) → HoldsRight slots i r → ⊥

blank_bare : (n : ℕ) (r : Right) (i : ℕ) → HoldsRight (replicate n empty) i r → ⊥
blank_bare n r i w = go n i w.there
  where
    go : (n i : ℕ) → get_elem? (replicate n empty) i ≡ some w.slot → ⊥
    go zero i e = not_there e
    go (suc n) zero e = not_there (ap slot_right (some-injective empty w.slot e) ∙ w.holds)
    go (suc n) (suc i) e = go n i e

blank_hashed : (n : ℕ) → AllHashed (blank_table n)
blank_hashed n = record { slots = replicate n empty; packed = zeros_table n; fits = blank_fits n; none_bare = λ r e i w. blank_bare n r i w }

call_hashed : (table : Bytes) → AllHashed table → (c : Call) → AllHashed (agent table c).table
call_hashed table a c =
    let l : Leaves a.slots (agent table c).table = rw (← a.packed) at (leaves a.slots a.fits c) in
    record {
      slots = l.slots;
      packed = l.packed;
      fits = l.fits;
      none_bare = λ r e i w. let b = l.no_other r e i w in a.none_bare (recount b.count r) e i b.stands;
    }

then_hashed : (table : Bytes) → AllHashed table → (cs : List Call) → AllHashed (table_then table cs)
then_hashed table a [] = a
then_hashed table a (c ∷ cs) = then_hashed (agent table c).table (call_hashed table a c) cs

pub all_have_one : (n : ℕ) → 1 ≤ n → n ≤ 15 → (cs : List Call) (i : ℕ) (r : Right) → HoldsRight (slots_of (table_after_all n cs)) i r → 1 ≤ length r.hashes
all_have_one n p q cs i r w = go r.hashes refl
  where
    a : AllHashed (table_after_all n cs)
    a = then_hashed (blank_table n) (blank_hashed n) cs

    go : (hs : List Bytes) → r.hashes ≡ hs → 1 ≤ length hs
    go [] e = absurd (a.none_bare r e i (rw (a.packed, slots_table a.slots a.fits) at w))
    go (x ∷ hs) e = omega arith

pub by_course : (n : ℕ) → 1 ≤ n → n ≤ 15 → (cs : List Call) (free i : ℕ) (h : Bytes) (r : Right) → get_elem? (slots_of (table_after_all n cs)) i ≡ some (taken h (enabled r))
    → FoundByCourse free (slots_of (table_after_all n cs)) h r
by_course n p q cs free i h r e =
    record {
      some_hash = all_have_one n p q cs i r (record { slot = taken h (enabled r); there = e; holds = refl });
      by_each = λ x m. listed free (slots_of (table_after_all n cs)) (x ∷ []) i h r e (inr (x, (0, refl), m));
    }
