-- PROFILE 2.7: tables from before counts had their bit: when they were well formed, what they hold, and how they are turned.
use Rattle.std.specs.Prelude.{ℕ, ◌+◌, [], ◌∷◌, map, Bool, false, ◌&&◌, not, get_or, drop, eqb, if◌then◌else◌}
use Rattle.profile.specs.Bytes.{Bytes, byte, word, all, joined}
use Rattle.profile.specs.Sizes.{count_at, table_length, table_not_well_formed}
use Rattle.profile.specs.Slot.{Count, None, Some, kept_bit, Right, recount, reserved, enabled, disabled, Slot, empty, taken, distinct}
use Rattle.profile.specs.Table.{place_of, kept_of, spare_of, handle_of, length_of, right_of, well_rest, slot_bytes, slots_of, whole_slots}

-- ---- the rules before: the two lowest bits of byte 0 were both to spare, and so 0; all else was as in PROFILE 2.4 and 2.5
unfoldable pub well_before : Bytes → Bool
well_before s = eqb (kept_of s) 0 && eqb (spare_of s) 0 && well_rest s

unfoldable pub well_table_before : Bytes → Bool
well_table_before table = all well_before (slot_bytes table) && distinct (slots_of table)

-- ---- what such a slot holds: the number alone says the count, and 0 that none is kept
abbrev pub count_before : Bytes → Count
count_before s = if eqb (word count_at s) 0 then None else Some (word count_at s)

abbrev pub right_before : Bytes → Right
right_before s = recount (count_before s) (right_of s)

unfoldable pub unpack_before : Bytes → Slot
unpack_before s =
    get_or
    (empty ∷ taken (handle_of s) (reserved (length_of s)) ∷ taken (handle_of s) (enabled (right_before s)) ∷ [])
    (place_of s)
    (taken (handle_of s) (disabled (right_before s)))

-- ---- the turning
-- does a slot hold a right that keeps a count?
abbrev pub keeps_count : Slot → Bool
keeps_count empty = false
keeps_count (taken h (reserved n)) = false
keeps_count (taken h (enabled r)) = eqb (kept_bit r.count) 1
keeps_count (taken h (disabled r)) = eqb (kept_bit r.count) 1

-- where the number is not 0, byte 0 gets the bit of a count; no other byte changes
abbrev pub turn_slot : Bytes → Bytes
turn_slot s = if eqb (word count_at s) 0 then s else (byte 0 s + 2) ∷ drop 1 s

-- the number given, and the table afterwards
pub record Turned : Type 0 where
  pub number : ℕ
  pub table : Bytes

-- 102 by the length, then 103 by the rules before, with the table as it was; else 0, and every slot is turned
unfoldable pub turn : Bytes → Turned
turn table =
    if not (whole_slots table) then record { number = table_length; table = table }
    else if not (well_table_before table) then record { number = table_not_well_formed; table = table }
    else record { number = 0; table = joined (map turn_slot (slot_bytes table)) }
