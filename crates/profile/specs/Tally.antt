-- PROFILE 2.8: the tally of a table: five numbers that say how it is filled.
use Rattle.std.specs.Prelude.{ℕ, ◌+◌, List, [], ◌∷◌, Bool, ◌&&◌, not, length, eqb, if◌then◌else◌}
use Rattle.profile.specs.Bytes.{Bytes}
use Rattle.profile.specs.Sizes.{table_length, table_not_well_formed}
use Rattle.profile.specs.Slot.{reserved, enabled, disabled, Slot, empty, taken}
use Rattle.profile.specs.Table.{slots_of, whole_slots, well_table}
use Rattle.profile.specs.declared.Tally as code
use Rattle.profile.specs.declared.Tallied as after

-- five numbers: how many slots are empty, reserved, enabled and disabled, and how many payload bytes there are; it is the code's own type (src/lib.rt)
abbrev pub Tally : Type 0
Tally = code.Tally

abbrev pub tally_with : ℕ → ℕ → ℕ → ℕ → ℕ → Tally
tally_with e r u d p = record { empty = e; reserved = r; enabled = u; disabled = d; payload = p }

-- what one slot counts for: one of its place and, if it holds a right, the bytes of its payload; the room that a reservation keeps is no payload
abbrev pub in_slot : Slot → Tally
in_slot empty = tally_with 1 0 0 0 0
in_slot (taken h (reserved n)) = tally_with 0 1 0 0 0
in_slot (taken h (enabled r)) = tally_with 0 0 1 0 (length r.payload)
in_slot (taken h (disabled r)) = tally_with 0 0 0 1 (length r.payload)

-- two tallies added up, number by number
abbrev pub plus : Tally → Tally → Tally
plus a b = tally_with (a.empty + b.empty) (a.reserved + b.reserved) (a.enabled + b.enabled) (a.disabled + b.disabled) (a.payload + b.payload)

-- the tally of some slots, and that of a table
unfoldable pub tally_of : List Slot → Tally
tally_of [] = tally_with 0 0 0 0 0
tally_of (s ∷ t) = plus (in_slot s) (tally_of t)

abbrev pub tally_in : Bytes → Tally
tally_in table = tally_of (slots_of table)

-- are they the same five numbers?
abbrev pub same_tally : Tally → Tally → Bool
same_tally a b = eqb a.empty b.empty && eqb a.reserved b.reserved && eqb a.enabled b.enabled && eqb a.disabled b.disabled && eqb a.payload b.payload

-- ---- a tally that is worked out: the number given, and the five numbers afterwards
abbrev pub Tallied : Type 0
Tallied = after.Tallied

abbrev pub tallied : ℕ → Tally → Tallied
tallied n tally = record { number = n; tally = tally }

-- 102 by the length, then 103, with the numbers as they were; else 0, and those of the table, whatever they were
unfoldable pub work_out : Bytes → Tally → Tallied
work_out table was =
    if not (whole_slots table) then tallied table_length was
    else if not (well_table table) then tallied table_not_well_formed was
    else tallied 0 (tally_in table)
