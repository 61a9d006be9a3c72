-- PROFILE 2.10, said in another way: what a salvage leaves, slot by slot, by the numbers of the slots.
use Rattle.std.specs.Prelude.{ℕ, ◌≤◌, ◌<◌, ◌≡◌, List, true, false, length, drop}
use Rattle.std.proofs.Math.Option.{some}
use Rattle.std.proofs.Math.ListN.{get_elem?}
use Rattle.profile.specs.Bytes.{Bytes, zeros}
use Rattle.profile.specs.Sizes.{slot_size}
use Rattle.profile.specs.Slot.{Entry, taken}
use Rattle.profile.specs.Table.{unpack, well_slot, slot_count, slot_bytes, whole_slots, well_table}
use Rattle.profile.specs.Salvage.{Finding, kept, damaged, repeated, finding_byte, left_by, Salvaged}

-- slot i is well formed, and taken under the handle h
pub record TakenAt (slots : List Bytes) (i : ℕ) (h : Bytes) : Type 0 where
  pub bytes : Bytes
  pub entry : Entry
  pub there : get_elem? slots i ≡ some bytes
  pub well : well_slot bytes ≡ true
  pub under : unpack bytes ≡ taken h entry

-- what is found of slot i, whose bytes are s: it is damaged exactly where it is not well formed by itself; if it is well formed, it is repeated where a lower slot
-- that is well formed is taken under its handle, and else kept. So of the slots with one handle the lowest is kept
pub data Finds (slots : List Bytes) (i : ℕ) (s : Bytes) : Finding → Type 0 where
  is_damaged : well_slot s ≡ false → Finds slots i s damaged
  is_repeated : (h : Bytes) (e : Entry) (j : ℕ) → well_slot s ≡ true → unpack s ≡ taken h e → j < i → TakenAt slots j h → Finds slots i s repeated
  is_kept : well_slot s ≡ true → ((h : Bytes) (e : Entry) (j : ℕ) → unpack s ≡ taken h e → j < i → TakenAt slots j h → ⊥) → Finds slots i s kept

-- slot i afterwards: by what is found of it the report has its byte, and the slot its bytes or zeros
pub record SlotSalvaged (table : Bytes) (o : Salvaged) (i : ℕ) (s : Bytes) : Type 0 where
  pub finding : Finding
  pub finds : Finds (slot_bytes table) i s finding
  pub reported : get_elem? o.report i ≡ some (finding_byte finding)
  pub left : get_elem? (slot_bytes o.table) i ≡ some (left_by finding s)

-- what a salvage that is not refused leaves
pub record Salvages (table report : Bytes) (o : Salvaged) : Type 0 where
  -- the table left is whole and well formed, and has as many slots
  pub whole : whole_slots o.table ≡ true
  pub well : well_table o.table ≡ true
  pub as_many : slot_count o.table ≡ slot_count table
  pub slots : (i : ℕ) (s : Bytes) → get_elem? (slot_bytes table) i ≡ some s → SlotSalvaged table o i s
  -- the number is no refusal's; the rest of the report buffer stays
  pub few : o.number ≤ slot_count table
  pub long : length o.report ≡ length report
  pub rest : drop (slot_count table) o.report ≡ drop (slot_count table) report

-- ---- one slot of a well-formed table, slot i, has come to other bytes, s
-- any other slot j is then as it was; unless the bytes s are a record under its handle, and stand below it: then it gives way
pub data Beside (i : ℕ) (s : Bytes) (j : ℕ) (was : Bytes) : Bytes → Type 0 where
  stays : Beside i s j was was
  gives_way : (h : Bytes) (e f : Entry) → i < j → well_slot s ≡ true → unpack s ≡ taken h e → unpack was ≡ taken h f → Beside i s j was (zeros slot_size)
