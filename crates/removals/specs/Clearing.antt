-- What kinds 6 and 7 do, over the places that they take.
use Rattle.std.specs.Prelude.{ℕ, Bool, List, set, if◌then◌else◌}
use Rattle.profile.specs.Slot.{Entry, Slot, empty}
use Rattle.profile.specs.Frame.{unexpected}
use Rattle.profile.specs.Agent.{Answer, deny, done, nothing}
use Rattle.slots.specs.declared.place.Place.{Place}
use Rattle.slots.specs.Places.{place_of_entry}

-- on the record found in slot i: the slot cleared, or 6 for a place that is not taken
abbrev pub clear_at : (Place → Bool) → List Slot → ℕ → Entry → Answer
clear_at places t i e = if places (place_of_entry e) then done nothing (set t i empty) else deny unexpected
