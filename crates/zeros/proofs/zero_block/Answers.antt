-- `zeros::zero_block` meets its contract: the OR so far and what is left to look at decide the answer. Assumes nothing.
use mathlib.Core.Path.{◌∙◌}
use Rattle.zeros.proofs.ZeroBytes.{or_pass}
use Rattle.zeros.proofs.zero_block.Goals as goal

pub loop-b-preserved : goal.loop-b-preserved
loop-b-preserved c = c.loop-b.invariant ∙ or_pass c.args.s.now _ c.loop-b.acc c.loop-b-test.true
