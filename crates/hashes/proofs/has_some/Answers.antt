-- `hashes::has_some` meets its contract. Assumes nothing.
use mathlib.Core.Path.{◌∙◌}
use Rattle.hashes.proofs.Querying.{record_none, record_some}
use Rattle.hashes.proofs.has_some.Goals as goal

pub returns-then-count-ne0 : goal.returns-then-count-ne0
returns-then-count-ne0 c = record_some c.args.s.now c.args.q.now _ (c.from-count.ensures ∙ c.slot_hashes.ensures) _ c.told-s c.requires c.has_one_of.ensures

pub returns-else-count-ne0 : goal.returns-else-count-ne0
returns-else-count-ne0 c = let z = c.if-count-ne0.false in rw z (record_none c.args.s.now c.args.q.now _ (c.from-count.ensures ∙ c.slot_hashes.ensures) z)
