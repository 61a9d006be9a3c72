-- `changes::slot::lend` meets its contract: place and handle are written. Assumes nothing.
use Rattle.octets.proofs.ByteBounds.{below_256}
use Rattle.changes.proofs.SlotBytes.{lends}
use borrow.Author.Rules.{rules}
use Rattle.changes.proofs.slot.lend.Goals as goal

pub returns : goal.returns
returns c =
    let s = c.args.s.now in
    lends s (below_256 s (search rules)) c.put_place.new.s c.put_bytes.new.out c.args.k (search rules) c.requires
    c.put_place.ensures c.put_bytes.ensures
