-- `changes::slot::enable` meets its contract: byte 0 and the count are written. Assumes nothing.
use mathlib.Core.Path.{refl}
use Rattle.octets.proofs.ByteBounds.{below_256}
use Rattle.changes.proofs.SlotBytes.{enables}
use borrow.Author.Rules.{rules}
use Rattle.changes.proofs.slot.enable.Goals as goal

pub returns : goal.returns
returns c =
    let s = c.args.s.now in
    let count = c.put_count in
    enables s (below_256 s (search rules)) c.put_head.new.s count.new.s c.args.count _ _ c.requires
    c.slot_hashes-hashes.ensures refl c.put_head.ensures count.ensures
