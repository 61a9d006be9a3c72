-- `reply_writer::writer::reply_right` meets its contract: a head and the four fields. Assumes nothing.
use borrow.Author.Rules.{rules}
use Rattle.std.proofs.Math.Nat.{add-sub_cancel_left}
use Rattle.profile.specs.Sizes.{hashes_at, payload_at}
use Rattle.reply_writer.proofs.Frames.{right_steps}
use Rattle.reply_writer.proofs.writer.reply_right.Goals as goal

pub returns : goal.returns
returns c =
    let a = c.args in
    right_steps a.slot.now a.reply.now (search rules) c.requires.2 c.requires.1
    c.slot_hashes-hashes.ensures c.success_of-second.ensures c.count_of-count.ensures c.word_at-length.ensures c.right_head-head.ensures
    (rw (c.number.ensures.is, c.from-size.ensures) at c.put_head.ensures) c.put_key.ensures c.put_bytes.ensures
    (rw (c.from-n.ensures, c.from-size.ensures, add-sub_cancel_left hashes_at) at c.put_bytes-2.ensures) (rw (c.from-m.ensures, c.from-n.ensures, c.from-size.ensures, add-sub_cancel_left payload_at) at c.put_bytes-3.ensures) c.requires.0
