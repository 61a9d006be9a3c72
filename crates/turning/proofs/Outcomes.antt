-- The turning, outcome by outcome. Assumes nothing.
use mathlib.Core.Path.{◌≡◌}
use mathlib.Core.List.{map}
use mathlib.Core.Bool.{true, false}
use Rattle.profile.specs.Bytes.{Bytes, joined}
use Rattle.profile.specs.Table.{slot_bytes, whole_slots}
use Rattle.profile.specs.Turning.{well_table_before, turn_slot, turn}
use Rattle.turning.specs.Turns.{turned}

module _ (t : Bytes) where
  pub by_length : whole_slots t ≡ false → turned 102 t ≡ turn t
  unfolding turn
  by_length e = rw e

  pub by_rules : whole_slots t ≡ true → well_table_before t ≡ false → turned 103 t ≡ turn t
  unfolding turn
  by_rules e w = rw (e, w)

  pub by_marks : whole_slots t ≡ true → well_table_before t ≡ true → (u : Bytes) → u ≡ joined (map turn_slot (slot_bytes t)) → turned 0 u ≡ turn t
  unfolding turn
  by_marks e w u q = rw (e, w, q)
