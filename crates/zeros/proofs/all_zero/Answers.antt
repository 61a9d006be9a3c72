-- `zeros::all_zero` meets its contract: the blocks and the bytes after them decide the answer. Assumes nothing.
use mathlib.Core.Path.{◌∙◌}
use native.Mathlib.Omega.{arith}
use Rattle.zeros.proofs.ZeroBytes.{blocks_zero, blocks_other}
use Rattle.zeros.proofs.all_zero.Goals as goal

pub returns-then-zero_blocks : goal.returns-then-zero_blocks
returns-then-zero_blocks c = c.zero_block.ensures ∙ blocks_zero 1024 _ _ _ c.as_chunks.ensures.front _ c.zero_blocks.ensures _ _ c.as_chunks.ensures.back (omega arith) c.if-zero_blocks.true

pub returns-else-zero_blocks : goal.returns-else-zero_blocks
returns-else-zero_blocks c = blocks_other 1024 _ _ _ c.as_chunks.ensures.front _ c.zero_blocks.ensures c.if-zero_blocks.false
