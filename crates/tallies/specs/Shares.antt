-- What a slot counts for in a tally, by its place and its length.
use Rattle.std.specs.Prelude.{ℕ, ◌-◌, ◌≤◌, ◌<◌, ◌^◌, ltb, if◌then◌else◌}
use Rattle.profile.specs.Tally.{Tally, tally_with}
use Rattle.slots.specs.declared.place.Place.{Place}
use Rattle.slots.specs.declared.place.Place.TheVariants.{Empty, Reserved, Enabled, Disabled}

-- one of its place and, of a right, the length
abbrev pub share : Place → ℕ → Tally
share Empty n = tally_with 1 0 0 0 0
share Reserved n = tally_with 0 1 0 0 0
share Enabled n = tally_with 0 0 1 0 n
share Disabled n = tally_with 0 0 0 1 n

-- the payload bytes of a slot, by the number of its place: those of a right are as many as its length, and a slot without one has none
abbrev pub in_sum : ℕ → ℕ → ℕ
in_sum place length = if ltb place 2 then 0 else length

-- a tally less another, number by number
abbrev pub less : Tally → Tally → Tally
less a b = tally_with (a.empty - b.empty) (a.reserved - b.reserved) (a.enabled - b.enabled) (a.disabled - b.disabled) (a.payload - b.payload)

-- each number of a is at most that of b
pub record Within (a b : Tally) : Type 0 where
  pub empty : a.empty ≤ b.empty
  pub reserved : a.reserved ≤ b.reserved
  pub enabled : a.enabled ≤ b.enabled
  pub disabled : a.disabled ≤ b.disabled
  pub payload : a.payload ≤ b.payload

-- each number has 16 bits
pub record Small (a : Tally) : Type 0 where
  pub empty : a.empty < 2 ^ 16
  pub reserved : a.reserved < 2 ^ 16
  pub enabled : a.enabled < 2 ^ 16
  pub disabled : a.disabled < 2 ^ 16
  pub payload : a.payload < 2 ^ 16
