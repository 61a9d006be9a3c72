-- `octets::arrays::hashes_at` meets its contract. The invariant: the first i arrays are the first i pieces, and
-- the rest are zero. Assumes nothing.
use mathlib.Core.Path.{◌≡◌}
use Prim.Native.Nat.{◌-◌}
use lib.ListN.{length, take, drop, replicate}
use Rattle.profile.specs.Bytes.{pieces, zeros}
use Rattle.octets.proofs.arrays.hashes_at.Given as goal

abbrev pub invariant-loop-i : goal.invariant-loop-i
invariant-loop-i l = (length l.q ≡ 8) × (take l.i l.q ≡ pieces 20 l.i (drop l.at l.s)) × (drop l.i l.q ≡ replicate (8 - l.i) (zeros 20))
