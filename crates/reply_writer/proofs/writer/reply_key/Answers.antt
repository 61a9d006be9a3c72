-- `reply_writer::writer::reply_key` meets its contract: a head, and the key. Assumes nothing.
use borrow.Author.Rules.{rules}
use Rattle.reply_writer.proofs.Frames.{key_steps}
use Rattle.reply_writer.proofs.writer.reply_key.Goals as goal

pub returns : goal.returns
returns c =
    let a = c.args in
    key_steps a.slot.now a.reply.now (search rules) (rw (c.number.ensures.is, c.status_of.ensures) at c.put_head.ensures) c.put_key.ensures c.requires
