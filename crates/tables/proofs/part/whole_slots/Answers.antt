-- `tables::part::whole_slots` meets its contract. Assumes nothing.
use borrow.Author.Rules.{rules}
use Rattle.profile.specs.Table.{whole_slots}
use Rattle.tables.proofs.part.whole_slots.Goals as goal

pub returns : goal.returns
unfolding whole_slots
returns c = search rules
