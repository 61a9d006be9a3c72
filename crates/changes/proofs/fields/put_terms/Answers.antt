-- `changes::fields::put_terms` meets its contract: key, count and length, one after the other. Assumes nothing.
use Rattle.changes.proofs.fields.put_terms.Goals as goal

pub returns : goal.returns
returns c = rw (c.put_word.ensures, c.put_count.ensures, c.put_bytes.ensures)
