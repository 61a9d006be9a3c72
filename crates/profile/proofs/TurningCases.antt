-- The worked cases of the turning hold: computed.
use mathlib.Core.Path.{refl}
use Rattle.profile.specs.Bytes.{zeros}
use Rattle.profile.specs.Table.{unpack, well_rest, slot_bytes, slots_of, whole_slots}
use Rattle.profile.specs.Turning.{well_before, well_table_before, unpack_before, turn}
use Rattle.profile.specs.TurningCases

pub turnings_hold : TurningCases.Hold
unfolding TurningCases.shapes TurningCases.slots TurningCases.tables well_before well_table_before unpack_before turn whole_slots zeros slot_bytes slots_of unpack well_rest
turnings_hold = record { formed = refl; held = refl; turned = refl; bytes = refl; keeps = refl }
