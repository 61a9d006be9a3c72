-- `request_reader::asked::Asked::with_hashes` meets its contract: the record of what was read. Assumes nothing.
use Rattle.request_reader.specs.Asking.{list_query}
use Rattle.request_reader.proofs.asked.Asked.with_hashes.Goals as goal

pub returns : goal.returns
unfolding list_query
returns c = rw (c.blank.ensures, c.word_at-limit.ensures)
