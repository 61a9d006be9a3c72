-- PROFILE 8.3: counts never rise along a sequence of calls, by the ledger: from any calls to further ones, and since the installation.
use Prim.Native.Nat.{ℕ, zero, suc, ◌+◌}
use mathlib.Core.Path.{◌≡◌, refl, sym, ap, ◌∙◌, subst}
use mathlib.Core.Logic.{◌⊎◌, inl, inr}
use mathlib.Core.List.{List, [], ◌∷◌, ◌++◌, head-eq_of_cons-eq}
use mathlib.Core.Option.{some, some-injective}
use mathlib.Core.Bool.{Bool, not}
use native.Mathlib.Omega.{arith}
use lib.Dec.{eqb}
use lib.ListN.{length, get_elem?, length-map, length-append}
use Rattle.std.specs.Prelude.{if◌then◌else◌}
use Rattle.profile.specs.Bytes.{Bytes, same}
use Rattle.profile.specs.Slot.{Count, Right, recount, Entry, reserved, enabled, disabled, Slot}
use Rattle.profile.specs.Request.{Request, setup, install, retrieve, rek, enable, remove, cancel, list, info}
use Rattle.profile.specs.Agent.{Given, one, find, Call, Outcome, agent}
use Rattle.profile.specs.History.{Owned, for_use, lent, gone, Ledger, right_number, lend, give_back, end, tell, Exchange, history}
use Rattle.profile.specs.Run.{exchange_of, exchanges, Agrees}
use Rattle.profile.specs.Contents.{Installed, installations, held}
use Rattle.profile.specs.Demand3.{is_lent}
use Rattle.profile.specs.Rising.{NoHigher}
use Rattle.profile.proofs.Logic.{and_parts, not_true, if_both, split}
use Rattle.profile.proofs.Lookup.{found_looked}
use Rattle.profile.proofs.FirstEmpty.{not_there}
use Rattle.profile.proofs.Steps.{Stays, Returns, Does}
use Rattle.profile.proofs.Calls.{Failed, Comes, failed_history, history_append}
use Rattle.profile.proofs.Sound.{Sound, sound_comes, sound_call}
use Rattle.profile.proofs.Mirror.{mirrors}
use Rattle.profile.proofs.Keys.{number_map, number_append}
use Rattle.profile.proofs.CountOrder.{raise_means, no_higher_same, no_higher_then}

-- ---- one right of the ledger, by what a success tells
abbrev StaysLow : Right → Owned → Type 0
StaysLow r o = NoHigher r.count (held o).count

same_low : (b : Bool) (r : Right) (o u : Owned) → StaysLow r o → StaysLow r u → StaysLow r (if b then o else u)
same_low b r o u p q = if_both (StaysLow r) b {x = o} {y = u} p q

lend_low : (h k : Bytes) (o : Owned) → StaysLow (held o) (lend h k o)
lend_low h k (for_use x r) = same_low (same h x) r (lent k r) (for_use x r) (no_higher_same r.count) (no_higher_same r.count)
lend_low h k (lent x r) = same_low (same h x) r (lent k r) (lent x r) (no_higher_same r.count) (no_higher_same r.count)
lend_low h k (gone r) = no_higher_same r.count

end_low : (h : Bytes) (o : Owned) → StaysLow (held o) (end h o)
end_low h (for_use x r) = same_low (same h x) r (gone r) (for_use x r) (no_higher_same r.count) (no_higher_same r.count)
end_low h (lent x r) = same_low (same h x) r (gone r) (lent x r) (no_higher_same r.count) (no_higher_same r.count)
end_low h (gone r) = no_higher_same r.count

-- of the entries under one handle, the disabled one
abbrev count_of : Count → Entry → Count
count_of c (reserved n) = c
count_of c (enabled r) = c
count_of c (disabled r) = r.count

abbrev IsDisabled : Entry → Type 0
IsDisabled (reserved n) = ⊥
IsDisabled (enabled r) = ⊥
IsDisabled (disabled r) = Unit {0}

-- right number i has a count that is no higher than c
abbrev Low : Count → ℕ → Ledger → Type 0
Low c i l = (o : Owned) × (right_number i l ≡ some o) × NoHigher c (held o).count

module _ (l : Ledger) (t : List Slot) (a : Agrees l t) where
  -- the record that is found under the handle of a lent right is this right's
  lent_found : (i : ℕ) (h : Bytes) (r : Right) → right_number i l ≡ some (lent h r) → (at : ℕ) (e : Entry) → find h t ≡ one at e → disabled r ≡ e
  lent_found i h r n at e f =
      head-eq_of_cons-eq (sym ((mirrors l t a).recorded i (lent h r) h (disabled r) n is_lent) ∙ (found_looked h t at e (a.once h) f).0)

  returns_low : (h : Bytes) (c : Count) (u : List Slot) → ((r : Right) × Stays t h (enabled r) u) ⊎ Returns t h c u → (i : ℕ) (r : Right) → right_number i l ≡ some (lent h r) → NoHigher r.count c
  returns_low h c u (inl x) i r n = absurd (subst IsDisabled (lent_found i h r n x.1.at (enabled x.0) x.1.found) tt)
  returns_low h c u (inr x) i r n =
      let e : r.count ≡ x.right.count = ap (count_of c) (lent_found i h r n x.turns.at (disabled x.right) x.turns.found) in
      rw e ((raise_means x.right.count c).0 x.not_raised)

  back_low : (h : Bytes) (c : Count) → ((i : ℕ) (r : Right) → right_number i l ≡ some (lent h r) → NoHigher r.count c)
      → (i : ℕ) (o : Owned) → right_number i l ≡ some o → StaysLow (held o) (give_back h c o)
  back_low h c k i (for_use x r) n = no_higher_same r.count
  back_low h c k i (lent x r) n = split h x
      (λ p. rw p (same_low (same x x) r (for_use x (recount c r)) (lent x r) (k i r (rw (← p) at n)) (no_higher_same r.count)))
      (λ q. rw q (no_higher_same r.count))
  back_low h c k i (gone r) n = no_higher_same r.count

  tell_low : (free : ℕ) (q : Request) (g : Given) (u : List Slot) → Does free t q g u → (c : Count) (i : ℕ) → Low c i l → Low c i (tell l q)
  tell_low free (setup h n) g u d c i w = w
  tell_low free (install h r) g u d c i w = (w.0, number_append l.rights (for_use h r ∷ []) i w.0 w.1, w.2)
  tell_low free (retrieve h k) g u d c i w =
      (lend h k w.0, number_map (lend h k) l.rights i w.0 w.1, no_higher_then c (held w.0).count _ w.2 (lend_low h k w.0))
  tell_low free (rek h k) g u d c i w =
      (lend h k w.0, number_map (lend h k) l.rights i w.0 w.1, no_higher_then c (held w.0).count _ w.2 (lend_low h k w.0))
  tell_low free (enable h e) g u d c i w = (
    give_back h e w.0,
    number_map (give_back h e) l.rights i w.0 w.1,
    no_higher_then c (held w.0).count _ w.2 (back_low h e (returns_low h e u d.did) i w.0 w.1),
  )
  tell_low free (remove h) g u d c i w =
      (end h w.0, number_map (end h) l.rights i w.0 w.1, no_higher_then c (held w.0).count _ w.2 (end_low h w.0))
  tell_low free (cancel h) g u d c i w = w
  tell_low free (list limit q) g u d c i w = w
  tell_low free (info h) g u d c i w = w

-- ---- along calls
call_low : (l : Ledger) (table : Bytes) (s : Sound l table) (c : Call) (xs : List Exchange) (o : Outcome) → Comes s.slots c xs o → (k : Count) (i : ℕ) → Low k i l → Low k i (history l xs)
call_low l table s c xs o (inl d) k i w = rw (failed_history l xs d.failed) w
call_low l table s c xs o (inr d) k i w = rw d.told (tell_low l s.slots s.agrees d.free d.asked d.given d.slots d.does k i w)

run_low : (l : Ledger) (table : Bytes) → Sound l table → (cs : List Call) (k : Count) (i : ℕ) → Low k i l → Low k i (history l (exchanges table cs))
run_low l table s [] k i w = w
run_low l table s (c ∷ cs) k i w =
    rw (history_append l (exchange_of table c) (exchanges (agent table c).table cs))
    (run_low (history l (exchange_of table c)) (agent table c).table (sound_call l table s c) cs k i
    (call_low l table s c (exchange_of table c) (agent table c) (sound_comes l table s c) k i w))

-- the right of a number is one
low_is : (c : Count) (i : ℕ) (l : Ledger) → Low c i l → (o : Owned) → right_number i l ≡ some o → NoHigher c (held o).count
low_is c i l w o e = rw (← some-injective w.0 o (sym w.1 ∙ e)) w.2

pub never_rises : (l : Ledger) (table : Bytes) → Sound l table → (cs : List Call) (i : ℕ) (earlier later : Owned)
    → right_number i l ≡ some earlier → right_number i (history l (exchanges table cs)) ≡ some later → NoHigher (held earlier).count (held later).count
never_rises l table s cs i earlier later e f =
    low_is (held earlier).count i (history l (exchanges table cs)) (run_low l table s cs (held earlier).count i (earlier, e, no_higher_same (held earlier).count)) later f

-- ---- from its installation on
-- exchanges that failed install nothing
failed_installs : (xs ys : List Exchange) → Failed xs → installations (xs ++ ys) ≡ installations ys
failed_installs [] ys f = refl
failed_installs (x ∷ xs) ys f =
    let p = and_parts (not (eqb x.status 0)) _ f in
    rw (not_true (eqb x.status 0) p.0) (failed_installs xs ys p.1)

last_number : (rs : List Owned) (o : Owned) → get_elem? (rs ++ (o ∷ [])) (length rs + 0) ≡ some o
last_number [] o = refl
last_number (x ∷ rs) o =
    let e : length (x ∷ rs) + 0 ≡ suc (length rs + 0) = omega arith in
    rw e (last_number rs o)

-- the count that installation number i sent is that of right number m + i, if there were m rights, or a higher one
abbrev CameLow : ℕ → List Installed → Ledger → Type 0
CameLow m ps l = (i : ℕ) (p : Installed) → get_elem? ps i ≡ some p → Low p.right.count (m + i) l

module _ (l : Ledger) (xs : List Exchange) (m : Ledger) (on : (c : Count) (i : ℕ) → Low c i l → Low c i m) where
  -- a new right comes after those there were
  came_next : (h : Bytes) (r : Right) (rs : List Owned) → l.rights ≡ rs ++ (for_use h r ∷ []) → CameLow (length l.rights) (installations xs) m
      → CameLow (length rs) (record { handle = h; right = r; later = xs } ∷ installations xs) m
  came_next h r rs e k zero p q =
      rw (← some-injective (record { handle = h; right = r; later = xs }) p q)
      (on r.count (length rs + 0) (for_use h r, ap (λ (os : List Owned). get_elem? os (length rs + 0)) e ∙ last_number rs (for_use h r), no_higher_same r.count))
  came_next h r rs e k (suc i) p q =
      let n : length l.rights + i ≡ length rs + suc i = omega (arith, ap length e, length-append rs (for_use h r ∷ [])) in
      rw n at (k i p q)

-- every other request leaves as many rights
came_same : (a b : ℕ) → a ≡ b → (ps : List Installed) (l : Ledger) → CameLow a ps l → CameLow b ps l
came_same a b e ps l k = rw e at k

module _ (l : Ledger) (ys : List Exchange) where
  abbrev After : Ledger → Type 0
  After m = CameLow (length m.rights) (installations ys) (history m ys)

  tell_came : (q : Request) → ((c : Count) (i : ℕ) → Low c i (tell l q) → Low c i (history (tell l q) ys)) → After (tell l q)
      → CameLow (length l.rights) (installations (record { request = q; status = 0 } ∷ ys)) (history (tell l q) ys)
  tell_came (setup h n) on k = k
  tell_came (install h r) on k = came_next (tell l (install h r)) ys (history (tell l (install h r)) ys) on h r l.rights refl k
  tell_came (retrieve h j) on k = came_same _ (length l.rights) (length-map l.rights (lend h j)) (installations ys) (history (tell l (retrieve h j)) ys) k
  tell_came (rek h j) on k = came_same _ (length l.rights) (length-map l.rights (lend h j)) (installations ys) (history (tell l (rek h j)) ys) k
  tell_came (enable h c) on k = came_same _ (length l.rights) (length-map l.rights (give_back h c)) (installations ys) (history (tell l (enable h c)) ys) k
  tell_came (remove h) on k = came_same _ (length l.rights) (length-map l.rights (end h)) (installations ys) (history (tell l (remove h)) ys) k
  tell_came (cancel h) on k = k
  tell_came (list limit q) on k = k
  tell_came (info h) on k = k

  call_came : (t : List Slot) (c : Call) (xs : List Exchange) (o : Outcome) → Comes t c xs o → ((k : Count) (i : ℕ) → Low k i (history l xs) → Low k i (history (history l xs) ys)) → After (history l xs)
      → CameLow (length l.rights) (installations (xs ++ ys)) (history (history l xs) ys)
  call_came t c xs o (inl d) on k = rw (failed_installs xs ys d.failed, failed_history l xs d.failed) (rw (failed_history l xs d.failed) at k)
  call_came t c xs o (inr d) on k = rw d.told (tell_came d.asked (rw d.told at on) (rw d.told at k))

came_low : (l : Ledger) (table : Bytes) → Sound l table → (cs : List Call) → CameLow (length l.rights) (installations (exchanges table cs)) (history l (exchanges table cs))
came_low l table s [] = λ i p q. absurd (not_there q)
came_low l table s (c ∷ cs) =
    rw (history_append l (exchange_of table c) (exchanges (agent table c).table cs))
    (call_came l (exchanges (agent table c).table cs) s.slots c (exchange_of table c) (agent table c) (sound_comes l table s c)
    (run_low (history l (exchange_of table c)) (agent table c).table (sound_call l table s c) cs)
    (came_low (history l (exchange_of table c)) (agent table c).table (sound_call l table s c) cs))

pub since_installed : (l : Ledger) (table : Bytes) → Sound l table → (cs : List Call) (i : ℕ) (o : Owned) (p : Installed)
    → right_number (length l.rights + i) (history l (exchanges table cs)) ≡ some o → get_elem? (installations (exchanges table cs)) i ≡ some p
    → NoHigher p.right.count (held o).count
since_installed l table s cs i o p e f =
    low_is p.right.count (length l.rights + i) (history l (exchanges table cs)) (came_low l table s cs i p f) o e
