-- `octets::arrays::hashes_at` meets its contract. The invariant: the first i arrays are the first i pieces, and
-- the rest are zero. Assumes nothing.
use native.Mathlib.Omega.{arith}
use Rattle.profile.specs.Bytes.{zeros}
use Rattle.octets.proofs.Copying.{pieces_more, rest_more}
use borrow.Author.Rules.{rules}
use Rattle.octets.proofs.arrays.hashes_at.Goals as goal

pub loop-i-init : goal.loop-i-init
unfolding zeros
loop-i-init c = search rules

pub loop-i-preserved : goal.loop-i-preserved
loop-i-preserved c =
    let l = c.loop-i in (
      search rules,
      rw c.array_at.ensures (pieces_more 20 l.q l.i _ _ (omega arith) l.invariant.1),
      rest_more 8 _ l.q l.i _ l.invariant.2,
    )
