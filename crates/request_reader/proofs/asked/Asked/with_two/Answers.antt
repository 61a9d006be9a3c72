-- `request_reader::asked::Asked::with_two` meets its contract: the record of what was read. Assumes nothing.
use Rattle.request_reader.specs.Asking.{two_handles}
use Rattle.request_reader.proofs.asked.Asked.with_two.Goals as goal

pub returns : goal.returns
unfolding two_handles
returns c = rw (c.array_at-handle.ensures, c.array_at-new.ensures, c.blank.ensures)
