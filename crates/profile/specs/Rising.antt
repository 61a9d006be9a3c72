-- PROFILE 5.5, 8.3 and 8.7: counts that never rise, said once more.
use Rattle.std.specs.Prelude.{ℕ, ◌≤◌, ◌≡◌, List, ℤ, pos, neg_ℤ, set}
use Rattle.profile.specs.Bytes.{Bytes}
use Rattle.profile.specs.Slot.{Count, None, Some, Right, recount, enabled, disabled, Slot, taken}
use Rattle.profile.specs.Request.{Request, enable}
use Rattle.profile.specs.Agent.{nothing, done, one, find, act}

-- ---- PROFILE 8.3: of two counts of one right, the later is no higher: a count that was kept is kept still and is at most what it was; where none was kept, none is
abbrev pub NoHigher : Count → Count → Type 0
NoHigher None None = Unit {0}
NoHigher None (Some later) = ⊥
NoHigher (Some earlier) None = ⊥
NoHigher (Some earlier) (Some later) = later ≤ earlier

-- ---- PROFILE 5.5: where 9 is given: a return of a right that is lent, with a count that is higher
pub record Raises (t : List Slot) (q : Request) : Type 0 where
  pub handle : Bytes
  pub sent : Count
  pub asks : q ≡ enable handle sent
  pub at : ℕ
  pub right : Right
  pub is_lent : find handle t ≡ one at (disabled right)
  pub higher : NoHigher right.count sent → ⊥

-- the right r is lent under h in slot i: it can be returned as it went, and without knowing its count, too: with a kept count of 0, or else with none
pub record ReturnedAnyway (free : ℕ) (t : List Slot) (i : ℕ) (h : Bytes) (r : Right) : Type 0 where
  pub as_it_went : act free t (enable h r.count) ≡ done nothing (set t i (taken h (enabled r)))
  pub with_0 : (a : ℕ) → r.count ≡ Some a → act free t (enable h (Some 0)) ≡ done nothing (set t i (taken h (enabled (recount (Some 0) r))))
  pub with_none : r.count ≡ None → act free t (enable h None) ≡ done nothing (set t i (taken h (enabled r)))

-- ---- PROFILE 8.7: a signed number that is not above 0: so much below it
pub record NotAbove (z : ℤ) : Type 0 where
  pub below : ℕ
  pub is : z ≡ neg_ℤ (pos below)
