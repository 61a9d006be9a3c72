-- `reply_reader::shape::is_key` meets its contract. Assumes nothing.
use Rattle.reply_reader.proofs.Shapes.{key_tests}
use Rattle.reply_reader.proofs.shape.is_key.Goals as goal

pub returns : goal.returns
returns c = key_tests c.args.f.now
