-- `request_reader::asked::Asked::with_right` meets its contract: the record of what was read. Assumes nothing.
use Rattle.request_reader.specs.Asking.{installation}
use Rattle.request_reader.proofs.asked.Asked.with_right.Goals as goal

pub returns : goal.returns
unfolding installation
returns c = rw (c.array_at-handle.ensures, c.array_at-key.ensures, c.blank.ensures)
