-- `tables::part::slots_in` meets its contract: the library's chunks are the profile's pieces. Assumes nothing.
use Rattle.tables.proofs.SlotParts.{slots_cut}
use Rattle.tables.proofs.part.slots_in.Goals as goal

pub returns : goal.returns
returns c = slots_cut c.args.t.now _ c.as_chunks.ensures.front
