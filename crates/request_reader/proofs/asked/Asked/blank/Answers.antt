-- `request_reader::asked::Asked::blank` meets its contract. Assumes nothing.
use Rattle.profile.specs.Bytes.{zeros}
use borrow.Author.Rules.{rules}
use Rattle.request_reader.proofs.asked.Asked.blank.Goals as goal

pub returns : goal.returns
unfolding zeros
returns c = search rules
