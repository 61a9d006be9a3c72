-- What looking up a handle answers, from the profile's `find`.
use Rattle.std.specs.Prelude.{Option, Some, None}
use Rattle.profile.specs.Agent.{Found, absent, one}
use Rattle.slots.specs.Places.{place_of_entry}
use Rattle.tables.specs.declared.lookup.Record.{Record}

-- of a slot that is found, its number and the place of its record
unfoldable pub found_at : Found → Option Record
found_at absent = None
found_at (one i e) = Some (record { at = i; place = place_of_entry e })
