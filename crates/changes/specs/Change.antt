-- What the contracts of this crate speak of: slot i of a table, and when it may be changed.
use Rattle.std.specs.Prelude.{ℕ, ◌+◌, ◌*◌, ◌<◌, ◌≡◌, [], true, length, get_or, drop}
use Rattle.profile.specs.Bytes.{Bytes, part, pieces}
use Rattle.profile.specs.Sizes.{hash_size, slot_size}
use Rattle.profile.specs.Slot.{Count, Right, right_with}
use Rattle.profile.specs.Table.{place_of, well_slot, slot_count, slot_bytes, whole_slots, well_table}

-- the bytes of slot i
abbrev pub slot_at : Bytes → ℕ → Bytes
slot_at table i = get_or (slot_bytes table) i []

-- a whole, well-formed table has a slot i
pub record Has (table : Bytes) (i : ℕ) : Type 0 where
  pub whole : whole_slots table ≡ true
  pub well : well_table table ≡ true
  pub inside : i < slot_count table

-- a whole, well-formed slot of a place, by its number (PROFILE 2.3)
pub record Placed (place : ℕ) (s : Bytes) : Type 0 where
  pub long : length s ≡ slot_size
  pub well : well_slot s ≡ true
  pub place_is : place_of s ≡ place

-- the right of a request whose n hashes and payload of m bytes follow each other in its frame, from an offset on
abbrev pub right_from : Bytes → Count → ℕ → ℕ → Bytes → ℕ → Right
right_from key count n m f at = right_with key count (pieces hash_size n (drop at f)) (part (at + hash_size * n) m f)
