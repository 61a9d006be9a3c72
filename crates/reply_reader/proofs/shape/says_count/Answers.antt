-- `reply_reader::shape::says_count` meets its contract. Assumes nothing.
use Rattle.reply_reader.proofs.Shapes.{says_read}
use Rattle.reply_reader.proofs.shape.says_count.Goals as goal

pub returns : goal.returns
returns c =
    let a = c.args in
    says_read a.f.now a.at c.flag_of-bit.ensures c.word_at.ensures c.count_holds.ensures
