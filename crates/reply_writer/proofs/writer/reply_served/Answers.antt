-- `reply_writer::writer::reply_served` meets its contract: the status is that of what is served. Assumes nothing.
use Rattle.reply_writer.proofs.writer.reply_served.Goals as goal

pub returns : goal.returns
returns c = rw c.status_of.ensures at c.reply_status.ensures
