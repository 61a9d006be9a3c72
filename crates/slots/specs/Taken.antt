-- What a slot of every place but empty keeps, by its place.
use Rattle.std.specs.Prelude.{ℕ, ◌+◌, Bool, true, ◌&&◌, eqb}
use Rattle.profile.specs.Bytes.{Bytes, part, all_zero}
use Rattle.profile.specs.Sizes.{key_size, key_at}
use Rattle.slots.specs.declared.place.Place.{Place}
use Rattle.slots.specs.declared.place.Place.TheVariants.{Empty, Reserved, Enabled, Disabled}

-- how many payload bytes may be other than 0: none of a reservation, whose length is the room asked for
abbrev pub payload_in : Place → ℕ → ℕ
payload_in Empty n = n
payload_in Reserved n = 0
payload_in Enabled n = n
payload_in Disabled n = n

-- a reservation has no hash, and its key and count are zero
abbrev pub awaits_well : Place → ℕ → Bytes → Bool
awaits_well Empty hashes s = true
awaits_well Reserved hashes s = eqb hashes 0 && all_zero (part key_at (key_size + 2) s)
awaits_well Enabled hashes s = true
awaits_well Disabled hashes s = true
