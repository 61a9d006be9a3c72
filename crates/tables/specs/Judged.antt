-- A table judged by the rules of today (PROFILE 2.5), or by those from before counts had their bit (PROFILE 2.7).
use Rattle.std.specs.Prelude.{Bool}
use Rattle.profile.specs.Bytes.{Bytes}
use Rattle.profile.specs.Table.{well_table}
use Rattle.profile.specs.Turning.{well_table_before}
use Rattle.slots.specs.declared.well.Rules.{Rules}
use Rattle.slots.specs.declared.well.Rules.TheVariants.{Today, Before}

abbrev pub table_by : Rules → Bytes → Bool
table_by Today t = well_table t
table_by Before t = well_table_before t
