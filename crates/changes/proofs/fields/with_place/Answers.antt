-- `changes::fields::with_place` meets its contract: the two fields are disjoint. Assumes nothing.
use native.Mathlib.Omega.{arith}
use lib.Bits.{bit_and, and_mask, mask_lt}
use Rattle.bits.proofs.Joining.{join}
use Rattle.changes.proofs.fields.with_place.Goals as goal

pub returns : goal.returns
returns c =
    let b = c.args.b in
    omega (arith, and_mask b 6, c.number.ensures.0, join 6 8 c.number.result (bit_and b 63) (omega (arith, c.number.ensures.1)) (mask_lt b 6))
