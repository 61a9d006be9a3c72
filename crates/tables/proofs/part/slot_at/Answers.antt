-- `tables::part::slot_at` meets its contract. Assumes nothing.
use Rattle.tables.proofs.SlotParts.{slot_lent}
use Rattle.tables.proofs.part.slot_at.Goals as goal

pub returns : goal.returns
returns c = slot_lent c.args.t.now c.args.i c.requires _ (rw c.unwrap.ensures at c.as_array.ensures.cases).same
