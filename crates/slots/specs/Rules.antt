-- A slot judged by the rules of today (PROFILE 2.4), or by those from before counts had their bit (PROFILE 2.7).
use Rattle.std.specs.Prelude.{Bool, ◌&&◌, eqb}
use Rattle.profile.specs.Bytes.{Bytes}
use Rattle.profile.specs.Table.{kept_of, spare_of, well_count, well_slot}
use Rattle.profile.specs.Turning.{well_before}
use Rattle.slots.specs.declared.well.Rules.{Rules}
use Rattle.slots.specs.declared.well.Rules.TheVariants.{Today, Before}

abbrev pub well_by : Rules → Bytes → Bool
well_by Today s = well_slot s
well_by Before s = well_before s

-- what the two rules say of the two lowest bits of byte 0, in which alone they differ
abbrev pub low_by : Rules → Bytes → Bool
low_by Today s = eqb (spare_of s) 0 && well_count s
low_by Before s = eqb (kept_of s) 0 && eqb (spare_of s) 0
