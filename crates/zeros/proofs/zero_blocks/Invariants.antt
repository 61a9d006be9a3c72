-- `zeros::zero_blocks` meets its contract: the blocks that are left to look at decide the answer. Assumes nothing.
use mathlib.Core.Path.{◌≡◌}
use lib.ListN.{drop}
use Rattle.profile.specs.Bytes.{all_zero, joined}
use Rattle.zeros.proofs.zero_blocks.Given as goal

abbrev pub invariant-loop-block : goal.invariant-loop-block
invariant-loop-block g l = all_zero (joined l.blocks) ≡ all_zero (joined (drop l.block-index l.blocks))
