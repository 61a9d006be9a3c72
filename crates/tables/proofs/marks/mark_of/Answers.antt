-- `tables::marks::mark_of` meets its contract: the last two bytes of the handle stand at 9 and 10. Assumes nothing.
use Rattle.tables.proofs.Marking.{mark_read}
use Rattle.tables.proofs.marks.mark_of.Goals as goal

pub returns : goal.returns
returns c = mark_read c.args.s.now
