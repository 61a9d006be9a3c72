-- PROFILE 2.9 and 8.6 in worked cases: what the words of their statements take in, and what they exclude.
use Rattle.std.specs.Prelude.{◌≡◌, List, [], ◌∷◌, map}
use Rattle.std.proofs.Math.Option.{none, some}
use Rattle.profile.specs.Slot.{Some, Right, right_with, recount, reserved, enabled, disabled, Slot, empty, taken}
use Rattle.profile.specs.CaseBytes.{hex, H1, H2, H3, H4, K, L, A, B, five}
use Rattle.profile.specs.Unlisted.{Listed, slot_right, HoldsRight, HoldsRightBut, FoundByCourse}

-- a right without a hash, and one with two
abbrev pub bare : Right
bare = right_with K (Some 7) [] five

abbrev pub both : Right
both = right_with L (Some 258) (A ∷ B ∷ []) (hex "BC")

-- a slot of each place: without a hash under H2, with two under H3 and, lent, under H4
abbrev pub slots : List Slot
slots = empty ∷ taken H1 (reserved 5) ∷ taken H2 (enabled bare) ∷ taken H3 (enabled both) ∷ taken H4 (disabled both) ∷ []

-- ---- these are what the definitions say
pub record Hold : Type 0 where
  pub rights : map slot_right slots ≡ none ∷ none ∷ some bare ∷ some both ∷ some both ∷ []
  -- a right stands in its slot, enabled or disabled; not where there is another, or none
  pub stands_enabled : HoldsRight slots 2 bare
  pub stands_disabled : HoldsRight slots 4 both
  pub not_another : ¬ HoldsRight slots 3 bare
  pub not_reserved : ¬ HoldsRight slots 1 bare
  pub not_empty : ¬ HoldsRight slots 0 bare
  pub not_outside : ¬ HoldsRight slots 5 bare
  -- with this count or another, but with no other key or payload
  pub other_count : HoldsRightBut slots 2 (recount (Some 1) bare)
  pub other_key : ¬ HoldsRightBut slots 2 (right_with L (Some 7) [] five)
  pub other_payload : ¬ HoldsRightBut slots 2 (right_with K (Some 7) [] (hex "BC"))
  pub other_hashes : ¬ HoldsRightBut slots 2 (right_with K (Some 7) (A ∷ []) five)
  -- the list of all has the handles of both; by a hash of the second it has that one alone; a lent right is on none
  pub bare_listed : Listed 5 slots [] H2
  pub both_listed : Listed 5 slots [] H3
  pub by_its_hash : Listed 5 slots (B ∷ []) H3
  pub bare_not : ¬ Listed 5 slots (A ∷ []) H2
  pub lent_not : ¬ Listed 5 slots [] H4
  -- found by course: not without a hash, and not under a handle that no list has
  pub bare_unfound : ¬ FoundByCourse 5 slots H2 bare
  pub lent_unfound : ¬ FoundByCourse 5 slots H4 both
