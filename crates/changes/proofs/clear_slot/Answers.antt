-- `changes::clear_slot` meets its contract: a slot of zeros is an empty one. Assumes nothing.
use mathlib.Core.Path.{◌∙◌}
use Rattle.octets.proofs.ByteBounds.{below_256}
use Rattle.changes.proofs.Lent.{emptied}
use borrow.Author.Rules.{rules}
use Rattle.changes.proofs.clear_slot.Goals as goal

pub wipe_slot-requires : goal.wipe_slot-requires
wipe_slot-requires c = c.requires.inside

pub returns : goal.returns
returns c =
    let t = c.args.t.now in
    c.wipe_slot.ensures ∙ emptied t c.args.i c.requires (below_256 t (search rules))
