-- The words of PROFILE 5.5, 8.3 and 8.7 for counts that never rise, in worked cases, with what they exclude.
use Rattle.std.specs.Prelude.{List, [], ◌∷◌, pos, neg_ℤ}
use Rattle.profile.specs.Slot.{None, Some, Right, right_with, enabled, disabled, Slot, empty, taken}
use Rattle.profile.specs.Request.{enable, remove}
use Rattle.profile.specs.CaseBytes.{H1, H2, K, A, five}
use Rattle.profile.specs.Rising.{NoHigher, Raises, NotAbove}

-- a right with a kept count of 7, lent under H2, and for use under H1
abbrev pub seven : Right
seven = right_with K (Some 7) (A ∷ []) five

abbrev pub slots : List Slot
slots = taken H1 (enabled seven) ∷ empty ∷ taken H2 (disabled seven) ∷ []

pub record Hold : Type 0 where
  -- no higher: fewer, as many, none for none; but not one more, not none for a kept count, and not a kept count for none, though it is 0
  pub fewer : NoHigher (Some 7) (Some 0)
  pub as_many : NoHigher (Some 65535) (Some 65535)
  pub none_still : NoHigher None None
  pub one_more : ¬ NoHigher (Some 7) (Some 8)
  pub none_for_kept : ¬ NoHigher (Some 0) None
  pub kept_for_none : ¬ NoHigher None (Some 0)
  -- 9 is for a return of a right that is lent, with a higher count: not with one that is no higher, not of a right for use, and for no other kind
  pub raised : Raises slots (enable H2 (Some 8))
  pub begun_again : Raises slots (enable H2 None)
  pub not_raised : ¬ Raises slots (enable H2 (Some 7))
  pub not_in_use_lem : ¬ Raises slots (enable H1 (Some 8))
  pub not_removed : ¬ Raises slots (remove H2)
  -- not above 0
  pub at_0 : NotAbove (pos 0)
  pub under_0 : NotAbove (neg_ℤ (pos 3))
  pub not_over_0 : ¬ NotAbove (pos 1)
