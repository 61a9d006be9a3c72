-- `changes::wipe_slot` meets its contract: the part that was lent is back as zeros. Assumes nothing.
use Prim.Native.Nat.{◌+◌, ◌-◌, ◌*◌}
use native.Mathlib.Omega.{arith}
use Rattle.changes.proofs.Lent.{wiped}
use Rattle.changes.proofs.wipe_slot.Goals as goal

pub returns : goal.returns
returns c =
    let i = c.args.i in
    wiped c.args.t.now i c.requires c.clear.new.d (4288 * i + 4288 - 4288 * i) (omega arith) c.clear.ensures
