-- PROFILE 8.3 from the table that a salvage or a turning leaves.
use Prim.Native.Nat.{ℕ, zero, suc, ◌+◌, ◌%◌, ◌≤◌}
use mathlib.Core.Path.{◌≡◌, ◌∙◌}
use mathlib.Core.List.{List, [], ◌∷◌, map}
use mathlib.Core.Bool.{true, not}
use native.Mathlib.Omega.{arith}
use lib.Dec.{eqb}
use lib.ListN.{length, take, drop}
use Rattle.profile.specs.Bytes.{Bytes, Bytes256, byte, word, all, joined, pieces}
use Rattle.profile.specs.Slot.{distinct}
use Rattle.profile.specs.Table.{slot_count, slot_bytes, slots_of, whole_slots}
use Rattle.profile.specs.Turning.{well_before, well_table_before, turn_slot, Turned, turn}
use Rattle.profile.specs.Salvage.{Finding, kept, damaged, repeated, left_by, left_slots, findings_of, left_of, salvage}
use Rattle.profile.specs.Agent.{Call}
use Rattle.profile.specs.Demand3.{Demand3From}
use Rattle.profile.proofs.Logic.{and_parts, not_false, if_both, if_else}
use Rattle.profile.proofs.Strings.{bytes_take, bytes_drop, bytes_append, bytes_zeros, low_two}
use Rattle.profile.proofs.Turning.{Before, before, turns}
use Rattle.profile.proofs.Salvage.{left_whole, left_table, not_refused}
use Rattle.profile.proofs.Demand3.{demand_from}

none_256 : Bytes256 []
none_256 i = omega arith

-- ---- what a salvage leaves is made of the table's bytes and of zeros
bytes_kept : (f : Finding) (s : Bytes) → Bytes256 s → Bytes256 (left_by f s)
bytes_kept kept s b = b
bytes_kept damaged s b = bytes_zeros 4288
bytes_kept repeated s b = bytes_zeros 4288

bytes_left : (fs : List Finding) (n : ℕ) (s : Bytes) → Bytes256 s → Bytes256 (joined (left_slots fs (pieces 4288 n s)))
bytes_left [] n s b = none_256
bytes_left (f ∷ fs) zero s b = none_256
bytes_left (f ∷ fs) (suc n) s b =
    bytes_append (left_by f (take 4288 s)) (joined (left_slots fs (pieces 4288 n (drop 4288 s))))
    (bytes_kept f (take 4288 s) (bytes_take 4288 s b)) (bytes_left fs n (drop 4288 s) (bytes_drop 4288 s b))

pub after_salvage : (table report : Bytes) → Bytes256 table → whole_slots table ≡ true → slot_count table ≤ length report → (cs : List Call) → Demand3From (salvage table report).table cs
unfolding left_of slot_bytes
after_salvage table report bytes whole room cs =
    rw (not_refused table whole report room)
    (demand_from (left_of table) (bytes_left (findings_of table) (slot_count table) table bytes) (left_whole table whole) (left_table table whole) cs)

-- ---- a turning adds 2 to a byte whose two lowest bits are 0
bytes_turn : (s : Bytes) → Bytes256 s → Before s → Bytes256 (turn_slot s)
bytes_turn s bytes b = if_both (λ (t : Bytes). Bytes256 t) (eqb (word 27 s) 0) bytes marked
  where
    low : byte 0 s % 4 ≡ 0
    low = low_two (byte 0 s) ∙ rw (b.no_bit, b.spare)

    marked : Bytes256 ((byte 0 s + 2) ∷ drop 1 s)
    marked zero = omega (arith, bytes 0, low)
    marked (suc i) = bytes_drop 1 s bytes i

bytes_turned : (n : ℕ) (s : Bytes) → Bytes256 s → all well_before (pieces 4288 n s) ≡ true → Bytes256 (joined (map turn_slot (pieces 4288 n s)))
bytes_turned zero s b w = none_256
bytes_turned (suc n) s b w =
    let p = and_parts (well_before (take 4288 s)) (all well_before (pieces 4288 n (drop 4288 s))) w in
    bytes_append (turn_slot (take 4288 s)) (joined (map turn_slot (pieces 4288 n (drop 4288 s))))
    (bytes_turn (take 4288 s) (bytes_take 4288 s b) (before (take 4288 s) p.0)) (bytes_turned n (drop 4288 s) (bytes_drop 4288 s b) p.1)

turn_256 : (table : Bytes) → Bytes256 table → Bytes256 (turn table).table
unfolding turn well_table_before slot_bytes
turn_256 table bytes =
    if_both (λ (o : Turned). Bytes256 o.table) (not (whole_slots table)) bytes
    (if_else (λ (o : Turned). Bytes256 o.table) (not (well_table_before table)) bytes
    (λ e. bytes_turned (slot_count table) table bytes (and_parts (all well_before (slot_bytes table)) (distinct (slots_of table)) (not_false (well_table_before table) e)).0))

pub after_turning : (table : Bytes) → Bytes256 table → eqb (turn table).number 0 ≡ true → (cs : List Call) → Demand3From (turn table).table cs
after_turning table bytes e cs =
    let t = turns table e in
    demand_from (turn table).table (turn_256 table bytes) t.whole t.well cs
