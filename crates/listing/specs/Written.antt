-- The parts of a listing as they are put into a buffer, one after the other.
use Rattle.std.specs.Prelude.{ℕ, ◌≡◌, ◌++◌, true, false}
use Rattle.codes.specs.declared.fault.Fault.{Fault}
use Rattle.codes.specs.declared.fault.Fault.TheVariants.{TableLength, TableNotWellFormed}
use Rattle.profile.specs.Bytes.{Bytes}
use Rattle.profile.specs.Text.{text}
use Rattle.profile.specs.Table.{slot_bytes, whole_slots, well_table}
use Rattle.profile.specs.Listing.{place_word, line, lines}
use Rattle.texts.specs.Written.{number}

-- past 102 and 103: what is not refused
pub record Listable (table : Bytes) : Type 0 where
  pub whole : whole_slots table ≡ true
  pub well : well_table table ≡ true

-- 102 by the length, and 103 by the form of one whose length is a table's
abbrev pub Refuses : Bytes → Fault → Type 0
Refuses table TableLength = whole_slots table ≡ false
Refuses table TableNotWellFormed = (whole_slots table ≡ true) × (well_table table ≡ false)
Refuses table _ = ⊥

-- the parts of the profile's definitions, under names that stay shut
unfoldable pub field : ℕ → Bytes
field n = text " " ++ number n

unfoldable pub placed : ℕ → Bytes
placed p = place_word p

-- a line's front and rest, and all of it
unfoldable pub label_of : ℕ → ℕ → Bytes
label_of i place = number i ++ text " " ++ placed place

unfoldable pub sizes_of : ℕ → ℕ → ℕ → Bytes
sizes_of hashes count size = field hashes ++ field count ++ field size ++ text "\n"

unfoldable pub line_of : ℕ → Bytes → Bytes
line_of i s = line i s

unfoldable pub lines_of : Bytes → Bytes
lines_of table = lines 0 (slot_bytes table)
