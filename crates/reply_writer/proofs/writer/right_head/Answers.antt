-- `reply_writer::writer::right_head` meets its contract. Assumes nothing.
use Rattle.reply_writer.proofs.Frames.{terms_are}
use Rattle.reply_writer.proofs.writer.right_head.Goals as goal

pub returns : goal.returns
returns c =
    let a = c.args in
    terms_are a.count a.hashes c.number_of-n.ensures c.high_of-high.ensures c.low_of-low.ensures c.hash_count_byte-shifted.ensures
