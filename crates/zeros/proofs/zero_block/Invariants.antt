-- `zeros::zero_block` meets its contract: the OR so far and what is left to look at decide the answer. Assumes nothing.
use mathlib.Core.Path.{◌≡◌}
use mathlib.Core.Bool.{◌&&◌}
use lib.Dec.{eqb}
use lib.ListN.{drop}
use Rattle.profile.specs.Bytes.{all_zero}
use Rattle.zeros.proofs.zero_block.Given as goal

abbrev pub invariant-loop-b : goal.invariant-loop-b
invariant-loop-b l = all_zero l.s ≡ (eqb l.acc 0 && all_zero (drop l.b-index l.s))
