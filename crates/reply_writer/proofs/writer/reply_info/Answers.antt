-- `reply_writer::writer::reply_info` meets its contract: a head, the count and the payload. Assumes nothing.
use borrow.Author.Rules.{rules}
use Rattle.std.proofs.Math.Nat.{add-sub_cancel_left}
use Rattle.profile.specs.Sizes.{payload_at}
use Rattle.reply_writer.proofs.Frames.{info_steps}
use Rattle.reply_writer.proofs.writer.reply_info.Goals as goal

pub returns : goal.returns
returns c =
    let a = c.args in
    info_steps a.slot.now a.reply.now (search rules) c.requires.1
    c.success_of-second.ensures c.count_of.ensures c.number_of-count.ensures c.word_at-length.ensures
    (rw c.number.ensures.is at c.put_head.ensures) c.put_word.ensures (rw (c.from-size.ensures, add-sub_cancel_left payload_at) at c.put_bytes.ensures) c.requires.0
