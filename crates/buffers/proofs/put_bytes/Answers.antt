-- `buffers::put_bytes` meets its contract: the part that was lent is back. Assumes nothing.
use native.Mathlib.Omega.{arith}
use Rattle.buffers.proofs.Overlays.{over_copied}
use Rattle.buffers.proofs.put_bytes.Goals as goal

pub returns : goal.returns
returns c = over_copied c.args.out.now c.args.s.now _ c.args.at _ (omega arith) c.copy.ensures
