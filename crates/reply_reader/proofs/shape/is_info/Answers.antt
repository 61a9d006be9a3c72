-- `reply_reader::shape::is_info` meets its contract. Assumes nothing.
use Rattle.reply_reader.proofs.Shapes.{info_short, info_tests}
use Rattle.reply_reader.proofs.shape.is_info.Goals as goal

pub returns-then-f-lt6 : goal.returns-then-f-lt6
returns-then-f-lt6 c = info_short c.args.f.now c.if-f-lt6.true

pub returns : goal.returns
returns c = info_tests c.args.f.now c.if-f-lt6.false c.says_count-counted.ensures
