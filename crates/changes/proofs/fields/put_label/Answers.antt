-- `changes::fields::put_label` meets its contract: byte 0, and then the handle. Assumes nothing.
use Rattle.changes.proofs.fields.put_label.Goals as goal

pub returns : goal.returns
returns c = rw (c.put_bytes.ensures, c.put_head.ensures)
