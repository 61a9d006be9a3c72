-- What stands in the frame of kind 2.
use Rattle.std.specs.Prelude.{ℕ, ◌+◌, ◌*◌, ◌≤◌, Bool, ltb, length}
use Rattle.profile.specs.Bytes.{Bytes}
use Rattle.profile.specs.Sizes.{most_payload, hash_size, most_hashes}
use Rattle.profile.specs.Table.{length_of}
use Rattle.tables.specs.declared.lookup.Record.{Record}
use Rattle.changes.specs.Change.{slot_at}

-- the fields of kind 2 that stand in its frame passed their tests: n hashes from the offset `at` on, then a payload of `size` bytes
pub record Sent (frame : Bytes) (at n size : ℕ) : Type 0 where
  pub few : n ≤ most_hashes
  pub some_payload : 1 ≤ size
  pub short : size ≤ most_payload
  pub inside : at + hash_size * n + size ≤ length frame

-- PROFILE 5.2: is a payload longer than the room that a record reserves?
abbrev pub longer_than_room : Bytes → ℕ → Record → Bool
longer_than_room table size r = ltb (length_of (slot_at table r.at)) size
