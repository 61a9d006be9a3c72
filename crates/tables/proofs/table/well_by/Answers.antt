-- `tables::table::well_by` meets its contract: its slots are well formed, and then their handles are distinct. Assumes nothing.
use Rattle.tables.proofs.WellTables.{not_all, all_then}
use Rattle.tables.proofs.table.well_by.Goals as goal

pub returns-then-all_well : goal.returns-then-all_well
returns-then-all_well c = all_then c.args.t.now c.args.rules _ c.slots_in-slots.ensures.0 c.all_well.ensures c.if-all_well.true c.all_distinct.ensures

pub returns-else-all_well : goal.returns-else-all_well
returns-else-all_well c = not_all c.args.t.now c.args.rules _ c.slots_in-slots.ensures.0 c.all_well.ensures c.if-all_well.false
