-- `reply_writer::writer::reply_status` meets its contract: a head alone. Assumes nothing.
use mathlib.Core.Path.{◌∙◌}
use Rattle.reply_writer.proofs.Frames.{head_written}
use Rattle.reply_writer.proofs.writer.reply_status.Goals as goal

pub returns : goal.returns
returns c =
    let a = c.args in
    c.put_head.ensures ∙ head_written a.kind a.status a.reply.now
