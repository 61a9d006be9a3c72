-- PROFILE 2.10: the salvage of a damaged table: what is found of each slot, the table left, the report and the number.
use Rattle.std.specs.Prelude.{ℕ, suc, List, [], ◌∷◌, map, Bool, false, not, length, ltb, if◌then◌else◌}
use Rattle.profile.specs.Bytes.{Bytes, zeros, over, joined}
use Rattle.profile.specs.Sizes.{slot_size, table_length, report_buffer_short}
use Rattle.profile.specs.Slot.{Slot, empty, taken, in_use}
use Rattle.profile.specs.Table.{unpack, well_slot, slot_count, slot_bytes, whole_slots}

-- ---- what is found of a slot, and its byte in the report
pub data Finding : Type 0 where
  kept damaged repeated : Finding

abbrev pub finding_byte : Finding → ℕ
finding_byte kept = 0
finding_byte damaged = 1
finding_byte repeated = 2

-- ---- the two steps
-- first each slot by itself: one that is not well formed is empty from then on
abbrev pub mended : Bytes → Slot
mended s = if well_slot s then unpack s else empty

-- then by handles: is it the handle of a lower slot? An empty slot has none
abbrev pub repeats : List Slot → Slot → Bool
repeats lower empty = false
repeats lower (taken h e) = in_use h lower

-- a slot, beside the lower ones as the first step left them
abbrev pub judge : List Slot → Bytes → Finding
judge lower s = if not (well_slot s) then damaged else if repeats lower (unpack s) then repeated else kept

-- slots one after another
abbrev pub findings : List Slot → List Bytes → List Finding
findings lower [] = []
findings lower (s ∷ slots) = judge lower s ∷ findings (mended s ∷ lower) slots

-- ---- what is left
-- a slot that is kept stays, byte by byte; any other is cleared
abbrev pub left_by : Finding → Bytes → Bytes
left_by kept s = s
left_by damaged s = zeros slot_size
left_by repeated s = zeros slot_size

abbrev pub left_slots : List Finding → List Bytes → List Bytes
left_slots [] slots = []
left_slots (f ∷ fs) [] = []
left_slots (f ∷ fs) (s ∷ slots) = left_by f s ∷ left_slots fs slots

-- how many are cleared
abbrev pub cleared : List Finding → ℕ
cleared [] = 0
cleared (kept ∷ fs) = cleared fs
cleared (damaged ∷ fs) = suc (cleared fs)
cleared (repeated ∷ fs) = suc (cleared fs)

-- ---- of a table
unfoldable pub findings_of : Bytes → List Finding
findings_of table = findings [] (slot_bytes table)

unfoldable pub left_of : Bytes → Bytes
left_of table = joined (left_slots (findings_of table) (slot_bytes table))

-- the report: a byte for each slot
unfoldable pub report_of : Bytes → Bytes
report_of table = map finding_byte (findings_of table)

-- the number given, and table and report buffer afterwards
pub record Salvaged : Type 0 where
  pub number : ℕ
  pub table : Bytes
  pub report : Bytes

-- 102 by the table's length, then 107 by the report buffer's, with both as they were; else the number of slots cleared, what is left, and the report at the
-- start of its buffer
unfoldable pub salvage : Bytes → Bytes → Salvaged
salvage table report =
    if not (whole_slots table) then record { number = table_length; table = table; report = report }
    else if ltb (length report) (slot_count table) then record { number = report_buffer_short; table = table; report = report }
    else record { number = cleared (findings_of table); table = left_of table; report = over (report_of table) report }
