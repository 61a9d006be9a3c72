-- `request_reader::reader::list_fields` meets its contract, test by test. Assumes nothing.
use Rattle.request_reader.proofs.Choices.{tests}
use Rattle.request_reader.specs.Asking.{of_list}
use Rattle.request_reader.proofs.reader.list_fields.Goals as goal

pub returns-then-count-gt-MOST_HASHES : goal.returns-then-count-gt-MOST_HASHES
unfolding of_list
returns-then-count-gt-MOST_HASHES c = search (tests, ← c.from-count.ensures)

pub returns-then-n-count : goal.returns-then-n-count
unfolding of_list
returns-then-n-count c = search (tests, ← c.from-count.ensures, ← c.body_length-n.ensures)

pub returns : goal.returns
unfolding of_list
returns c = search (tests, ← c.from-count.ensures, ← c.body_length-n.ensures)
