-- The places of a record, by their numbers (PROFILE 2.3).
use Rattle.std.specs.Prelude.{ℕ}
use Rattle.profile.specs.Slot.{Entry, reserved, enabled, disabled}
use Rattle.slots.specs.declared.place.Place.{Place}
use Rattle.slots.specs.declared.place.Place.TheVariants.{Empty, Reserved, Enabled, Disabled}

abbrev pub place_number : Place → ℕ
place_number Empty = 0
place_number Reserved = 1
place_number Enabled = 2
place_number Disabled = 3

-- the place of what stands under a handle
abbrev pub place_of_entry : Entry → Place
place_of_entry (reserved n) = Reserved
place_of_entry (enabled r) = Enabled
place_of_entry (disabled r) = Disabled
