-- `changes::slot::reserve` meets its contract: place, handle and length are written. Assumes nothing.
use Rattle.octets.proofs.ByteBounds.{below_256}
use Rattle.changes.proofs.SlotBytes.{reserves}
use borrow.Author.Rules.{rules}
use Rattle.changes.proofs.slot.reserve.Goals as goal

pub returns : goal.returns
returns c =
    let s = c.args.s.now in
    let label = c.put_label in
    let room = c.put_word in
    reserves s (below_256 s (search rules)) label.new.s room.new.out c.args.h c.args.n (search rules) c.requires label.ensures room.ensures
