-- What a function that serves a request takes for granted, what it does to the table and the reply buffer, and what it says that it changed.
use Rattle.std.specs.Prelude.{ℕ, ◌≤◌, ◌≡◌, true, length}
use Rattle.profile.specs.Bytes.{Bytes}
use Rattle.profile.specs.Sizes.{reply_room}
use Rattle.profile.specs.Table.{slots_of, whole_slots, well_table}
use Rattle.profile.specs.Request.{Request}
use Rattle.profile.specs.Agent.{Answer, act, replied}
use Rattle.tallies.specs.declared.update.Change.{Change}
use Rattle.tallies.specs.Changes.{change_by}

-- a table and a reply buffer that passed the tests for 101, 102 and 103. They are no one struct: each is lent apart and changed apart, and a
-- fact that a struct kept of both would end with the first change
pub record Ready (table buffer : Bytes) : Type 0 where
  pub whole : whole_slots table ≡ true
  pub well : well_table table ≡ true
  pub room : reply_room ≤ length buffer

-- what the agent answers to a request, on a table's bytes, where `free` is the slot that a setup takes
abbrev pub answer_at : ℕ → Bytes → Request → Answer
answer_at free table q = act free (slots_of table) q

-- the same for kinds 2 to 9, which take no free slot: it is their answer whatever `free` is (`slot_unused`, crates/profile/proofs/Starts.antt)
abbrev pub answer_to : Bytes → Request → Answer
answer_to table q = answer_at 0 table q

-- the table and the reply buffer afterwards, every byte of them, are those of the answer, and so is the change
pub record Serves (kind : ℕ) (a : Answer) (table buffer table' buffer' : Bytes) (change : Change) : Type 0 where
  pub table_is : table' ≡ (replied kind a table buffer).table
  pub reply_is : buffer' ≡ (replied kind a table buffer).reply
  pub change_is : change ≡ change_by (slots_of table) a
