-- What the steps of a frame promise.
use Rattle.std.specs.Prelude.{ℕ, ◌≡◌, eqb, if◌then◌else◌}
use Rattle.profile.specs.Bytes.{Bytes}
use Rattle.profile.specs.Table.{slots_of}
use Rattle.profile.specs.Tally.{tally_in}
use Rattle.profile.specs.Frame.{kind_number}
use Rattle.profile.specs.Request.{Request, retrieve, rek, read_request}
use Rattle.profile.specs.Agent.{first_empty_from, obey, on_bytes}
use Rattle.tallies.specs.declared.update.Change.{Change}
use Rattle.tallies.specs.Changes.{change_in, updated, Updates}
use Rattle.serving.specs.Call.{outcome, call_of}

-- kinds 3 and 4, by their number
abbrev pub lends_by : ℕ → Bytes → Bytes → Request
lends_by kind h k = if eqb kind 3 then retrieve h k else rek h k

-- what is done with a frame on a well-formed table: number, reply buffer and table are the profile's, and so is the tally that follows from the change, which is
-- the one from the slots before to those after, and can be taken into the tally
pub record Obeys (table : Bytes) (start : ℕ) (frame buffer table' buffer' : Bytes) (n : ℕ) (change : Change) : Type 0 where
  pub is : outcome n buffer' table' (updated (tally_in table) change)
      ≡ on_bytes (kind_number frame) (obey (read_request frame) (first_empty_from start (slots_of table)) (slots_of table)) table (call_of (tally_in table) start frame buffer)
  pub changed : change ≡ change_in (slots_of table) (slots_of table')
  pub updates : Updates (tally_in table) change
