-- `changes::fields::put_count` meets its contract: the number is the count's. Assumes nothing.
use Rattle.changes.proofs.fields.put_count.Goals as goal

pub returns : goal.returns
returns c = rw (c.put_word.ensures, c.number_of.ensures)
