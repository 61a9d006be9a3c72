-- `zeros::zero_blocks` meets its contract: the blocks that are left to look at decide the answer. Assumes nothing.
use mathlib.Core.Path.{sym, ◌∙◌}
use Rattle.zeros.proofs.ZeroBytes.{block_zero, block_other}
use Rattle.zeros.proofs.zero_blocks.Goals as goal

pub returns-then-not-zero_block : goal.returns-then-not-zero_block
returns-then-not-zero_block g c =
    let f = block_other _ _ _ c.loop-block-test.true c.block-item.is _ c.zero_block.ensures c.if-not-zero_block.true in
    sym (c.loop-block.invariant ∙ f ∙ c.if-not-zero_block.true)

pub loop-block-preserved : goal.loop-block-preserved
loop-block-preserved g c =
    c.loop-block.invariant ∙ block_zero _ _ _ c.loop-block-test.true c.block-item.is _ c.zero_block.ensures c.if-not-zero_block.false
