-- `reply_reader::shape::count_at` meets its contract. Assumes nothing.
use Rattle.reply_reader.proofs.Shapes.{count_read}
use Rattle.reply_reader.proofs.shape.count_at.Goals as goal

pub returns : goal.returns
returns c =
    let a = c.args in
    count_read a.f.now a.at c.flag_of-bit.ensures c.word_at-n.ensures c.count_with.ensures
