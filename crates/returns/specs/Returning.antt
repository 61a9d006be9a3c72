-- When kind 5 refuses a record that is installed.
use Rattle.std.specs.Prelude.{Bool, ◌&&◌}
use Rattle.profile.specs.Bytes.{Bytes}
use Rattle.profile.specs.Slot.{Count, raises}
use Rattle.profile.specs.Table.{count_of}
use Rattle.tables.specs.declared.lookup.Record.{Record}
use Rattle.changes.specs.Change.{slot_at}
use Rattle.decisions.specs.Decisions.{lent}

-- PROFILE 5.5: is the record lent, and would the count sent raise its own?
abbrev pub raised : Bytes → Count → Record → Bool
raised table sent r = lent r.place && raises (count_of (slot_at table r.at)) sent
