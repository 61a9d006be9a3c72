-- `tables::handle::in_use` meets its contract. Assumes nothing.
use Rattle.profile.specs.Table.{slots_of}
use Rattle.tables.proofs.handle.in_use.Goals as goal

pub returns : goal.returns
unfolding slots_of
returns c = rw (← c.slots_in.ensures.0) c.used_in.ensures
