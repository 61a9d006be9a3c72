-- The tests of a call that come before its frame.
use Rattle.std.specs.Prelude.{ℕ, not, leb, ltb, length, if◌then◌else◌}
use Rattle.profile.specs.Bytes.{Bytes}
use Rattle.profile.specs.Sizes.{reply_room, reply_buffer_short, table_length, start_outside, table_not_well_formed, tally_differs}
use Rattle.profile.specs.Table.{slot_count, whole_slots, well_table}
use Rattle.profile.specs.Tally.{Tally, tally_in, same_tally}

-- PROFILE 4.1: the number of the tests that come before the frame, or 0 where none fails
unfoldable pub tests_of : Bytes → Tally → ℕ → Bytes → ℕ
tests_of table tally start buffer =
    if ltb (length buffer) reply_room then reply_buffer_short
    else if not (whole_slots table) then table_length
    else if leb (slot_count table) start then start_outside
    else if not (well_table table) then table_not_well_formed
    else if not (same_tally tally (tally_in table)) then tally_differs
    else 0
