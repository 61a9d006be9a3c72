-- `salvage::slots_left::settle` meets its contract: what is not kept is wiped. Assumes nothing.
use mathlib.Core.Path.{sym}
use borrow.Author.Rules.{rules}
use denote.Enum.Bare.{differs_true, differs_false}
use Rattle.codes.specs.contracts.finding.Finding.{the_type}
use Rattle.salvage.proofs.Settling.{stays, goes}
use Rattle.salvage.proofs.slots_left.settle.Goals as goal

pub returns-then-ne : goal.returns-then-ne
returns-then-ne c = goes c.args.t.now c.args.i c.requires.0 c.requires.1 _ c.find-found.ensures (differs_true the_type _ _ (sym c.if-ne.ensures)) _ c.wipe_slot.ensures

pub returns-else-ne : goal.returns-else-ne
returns-else-ne c = stays c.args.t.now c.args.i c.requires.0 c.requires.1 _ c.find-found.ensures (differs_false the_type (search rules) _ _ (sym c.if-ne.ensures))
