-- `reply_reader::shape::no_body` meets its contract. Assumes nothing.
use Rattle.reply_reader.proofs.Shapes.{none_tests}
use Rattle.reply_reader.proofs.shape.no_body.Goals as goal

pub returns : goal.returns
returns c = none_tests c.args.f.now
