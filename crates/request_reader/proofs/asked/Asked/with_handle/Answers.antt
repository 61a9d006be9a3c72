-- `request_reader::asked::Asked::with_handle` meets its contract: the record of what was read. Assumes nothing.
use Rattle.request_reader.specs.Asking.{one_handle}
use Rattle.request_reader.proofs.asked.Asked.with_handle.Goals as goal

pub returns : goal.returns
unfolding one_handle
returns c = rw (c.array_at-handle.ensures, c.blank.ensures)
