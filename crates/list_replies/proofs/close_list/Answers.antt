-- `list_replies::close_list` meets its contract: a head, and the byte after it. Assumes nothing.
use Rattle.list_replies.proofs.Growing.{start_steps}
use Rattle.list_replies.proofs.close_list.Goals as goal

pub returns : goal.returns
returns c =
    let a = c.args in
    start_steps a.n a.more a.reply.now c.frame_start-head.ensures c.flag_byte.ensures c.put_bytes.ensures c.put_bytes-2.ensures c.requires.1
