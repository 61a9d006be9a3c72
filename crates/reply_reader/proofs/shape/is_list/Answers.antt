-- `reply_reader::shape::is_list` meets its contract. Assumes nothing.
use Rattle.reply_reader.proofs.Shapes.{list_short, list_tests}
use Rattle.reply_reader.proofs.shape.is_list.Goals as goal

pub returns-then-f-lt5 : goal.returns-then-f-lt5
returns-then-f-lt5 c = list_short c.args.f.now c.if-f-lt5.true

pub returns : goal.returns
returns c = list_tests c.args.f.now c.if-f-lt5.false c.flag_rest-rest.ensures
