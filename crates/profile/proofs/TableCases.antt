-- The worked cases of slots and tables hold: computed.
use mathlib.Core.Path.{refl}
use Rattle.profile.specs.Bytes.{zeros}
use Rattle.profile.specs.Table.{unpack, image, pack, well_rest, well_slot, slot_bytes, slots_of, table_of, whole_slots, well_table}
use Rattle.profile.specs.TableCases

pub tables_hold : TableCases.Hold
unfolding TableCases.shapes TableCases.tables TableCases.handles TableCases.slots whole_slots zeros well_table slot_bytes well_rest well_slot slots_of unpack table_of pack image
tables_hold =
    record {
      whole = refl;
      slot_formed = refl;
      table_formed = refl;
      apart = refl;
      in_use_lem = refl;
      recounted = refl;
      said = refl;
      raised = refl;
      says = refl;
      bits = refl;
      numbers = refl;
      places = refl;
      counts = refl;
      kept = refl;
      spares = refl;
      read = refl;
      written = refl;
      reads = refl;
      writes = refl;
    }
