-- PROFILE 5.5: what a return does by the counts of record and request, and that 9 is given for nothing else.
use Prim.Native.Nat.{ℕ}
use mathlib.Core.Path.{◌≡◌, refl, sym, ap, ◌∙◌}
use mathlib.Core.List.{List}
use mathlib.Core.Option.{some}
use mathlib.Core.Bool.{true, ◌||◌, true≢false}
use native.Mathlib.Omega.{arith}
use lib.Dec.{eqb, leb, ltb}
use lib.ListN.{length, get_elem?, set}
use Rattle.profile.specs.Bytes.{Bytes}
use Rattle.profile.specs.Slot.{Count, Some, raises, Right, recount, Entry, reserved, enabled, disabled, Slot, taken, in_use, distinct}
use Rattle.profile.specs.Frame.{count_raised}
use Rattle.profile.specs.Request.{Request, setup, install, retrieve, rek, enable, remove, cancel, list, info}
use Rattle.profile.specs.Agent.{Given, nothing, the_right, the_key, Answer, deny, done, Found, absent, one, find, when_found, install_at, lend_at, enable_at, remove_at, cancel_at, info_at, act, status}
use Rattle.profile.specs.Rising.{NoHigher, Raises, ReturnedAnyway}
use Rattle.profile.proofs.Logic.{if_both, if_cases}
use Rattle.profile.proofs.CountOrder.{raise_means, no_higher_same, raised_not}
use Rattle.profile.proofs.Unlisted.{find_at}

-- ---- a right that is lent, returned
module _ (free : ℕ) (t : List Slot) (d : distinct t ≡ true) (i : ℕ) (h : Bytes) (r : Right) (e : get_elem? t i ≡ some (taken h (disabled r))) where
  pub refused_9 : (c : Count) → (NoHigher r.count c → ⊥) → act free t (enable h c) ≡ deny count_raised
  unfolding act
  refused_9 c n = rw (find_at t d i h (disabled r) e, raised_not r.count c n)

  as_it_went : act free t (enable h r.count) ≡ done nothing (set t i (taken h (enabled r)))
  unfolding act
  as_it_went = rw (find_at t d i h (disabled r) e, (raise_means r.count r.count).1 (no_higher_same r.count))

  with_0 : (a : ℕ) → r.count ≡ Some a → act free t (enable h (Some 0)) ≡ done nothing (set t i (taken h (enabled (recount (Some 0) r))))
  unfolding act
  with_0 a p =
      let n : NoHigher r.count (Some 0) = rw p (omega arith) in
      rw (find_at t d i h (disabled r) e, (raise_means r.count (Some 0)).1 n)

  pub returned_anyway : ReturnedAnyway free t i h r
  returned_anyway =
      record {
        as_it_went = as_it_went;
        with_0 = with_0;
        with_none = λ p. ap (λ (c : Count). act free t (enable h c)) (sym p) ∙ as_it_went;
      }

-- ---- 9 is given for nothing else
abbrev Nine : List Slot → Request → Answer → Type 0
Nine t q a = status a ≡ 9 → Raises t q

module _ (t : List Slot) where
  found_nine : {q : Request} (h : Bytes) (f : ℕ → Entry → Answer) → ((i : ℕ) (e : Entry) → find h t ≡ one i e → Nine t q (f i e)) → Nine t q (when_found (find h t) f)
  found_nine {q} h f k = go (find h t) refl
    where
      go : (x : Found) → find h t ≡ x → Nine t q (when_found x f)
      go absent p = λ z. absurd (omega (arith, z))
      go (one i e) p = k i e p

  installs_nine : {q : Request} (h : Bytes) (r : Right) (i : ℕ) (e : Entry) → Nine t q (install_at t h r i e)
  installs_nine {q} h r i (reserved n) = if_both (Nine t q) (ltb n (length r.payload)) (λ z. absurd (omega (arith, z))) (λ z. absurd (omega (arith, z)))
  installs_nine h r i (enabled s) = λ z. absurd (omega (arith, z))
  installs_nine h r i (disabled s) = λ z. absurd (omega (arith, z))

  lends_nine : {q : Request} (k : Bytes) (give : Right → Given) (i : ℕ) (e : Entry) → Nine t q (lend_at t k give i e)
  lends_nine k give i (reserved n) = λ z. absurd (omega (arith, z))
  lends_nine {q} k give i (enabled r) = if_both (Nine t q) (in_use k t) (λ z. absurd (omega (arith, z))) (λ z. absurd (omega (arith, z)))
  lends_nine k give i (disabled r) = λ z. absurd (omega (arith, z))

  enables_nine : (h : Bytes) (c : Count) (i : ℕ) (e : Entry) → find h t ≡ one i e → Nine t (enable h c) (enable_at t h c i e)
  enables_nine h c i (reserved n) p = λ z. absurd (omega (arith, z))
  enables_nine h c i (enabled r) p = λ z. absurd (omega (arith, z))
  enables_nine h c i (disabled r) p =
      if_cases (Nine t (enable h c)) (raises r.count c)
      (λ b z. record { handle = h; sent = c; asks = refl; at = i; right = r; is_lent = p; higher = λ n. true≢false (sym b ∙ (raise_means r.count c).1 n) })
      (λ b z. absurd (omega (arith, z)))

  removes_nine : {q : Request} (i : ℕ) (e : Entry) → Nine t q (remove_at t i e)
  removes_nine i (reserved n) = λ z. absurd (omega (arith, z))
  removes_nine i (enabled r) = λ z. absurd (omega (arith, z))
  removes_nine i (disabled r) = λ z. absurd (omega (arith, z))

  cancels_nine : {q : Request} (i : ℕ) (e : Entry) → Nine t q (cancel_at t i e)
  cancels_nine i (reserved n) = λ z. absurd (omega (arith, z))
  cancels_nine i (enabled r) = λ z. absurd (omega (arith, z))
  cancels_nine i (disabled r) = λ z. absurd (omega (arith, z))

  tells_nine : {q : Request} (i : ℕ) (e : Entry) → Nine t q (info_at t i e)
  tells_nine i (reserved n) = λ z. absurd (omega (arith, z))
  tells_nine i (enabled r) = λ z. absurd (omega (arith, z))
  tells_nine i (disabled r) = λ z. absurd (omega (arith, z))

  acts_nine : (free : ℕ) (q : Request) → Nine t q (act free t q)
  unfolding act
  acts_nine free (setup h n) =
      if_both (Nine t (setup h n)) (eqb n 0) (λ z. absurd (omega (arith, z)))
      (if_both (Nine t (setup h n)) (in_use h t) (λ z. absurd (omega (arith, z)))
      (if_both (Nine t (setup h n)) (ltb 4096 n || leb (length t) free) (λ z. absurd (omega (arith, z))) (λ z. absurd (omega (arith, z)))))
  acts_nine free (install h r) = found_nine h (install_at t h r) (λ i e p. installs_nine h r i e)
  acts_nine free (retrieve h k) = found_nine h (lend_at t k the_right) (λ i e p. lends_nine k the_right i e)
  acts_nine free (rek h k) = found_nine h (lend_at t k (λ r. the_key r.key)) (λ i e p. lends_nine k (λ r. the_key r.key) i e)
  acts_nine free (enable h c) = found_nine h (enable_at t h c) (enables_nine h c)
  acts_nine free (remove h) = found_nine h (remove_at t) (λ i e p. removes_nine i e)
  acts_nine free (cancel h) = found_nine h (cancel_at t) (λ i e p. cancels_nine i e)
  acts_nine free (list limit q) = λ z. absurd (omega (arith, z))
  acts_nine free (info h) = found_nine h (info_at t) (λ i e p. tells_nine i e)

pub only_9 : (free : ℕ) (t : List Slot) (q : Request) → act free t q ≡ deny count_raised → Raises t q
only_9 free t q e = acts_nine t free q (ap status e)
