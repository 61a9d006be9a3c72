-- `changes::store_reservation` meets its contract: the part that was lent is the slot, and is back as the changed one. Assumes nothing.
use Prim.Native.Nat.{◌+◌, ◌-◌, ◌*◌}
use native.Mathlib.Omega.{arith}
use Rattle.profile.specs.Slot.{reserved, taken}
use Rattle.octets.proofs.ByteBounds.{below_256}
use Rattle.changes.proofs.Lent.{lent_placed, changed}
use borrow.Author.Rules.{rules}
use Rattle.changes.proofs.store_reservation.Goals as goal

pub reserve-requires : goal.reserve-requires
reserve-requires c = lent_placed c.args.t.now c.args.i c.requires.0 0 (4288 * c.args.i + 4288 - 4288 * c.args.i) (omega arith) c.requires.1

pub returns : goal.returns
returns c =
    let t = c.args.t.now in
    let i = c.args.i in
    let k = 4288 * i + 4288 - 4288 * i in
    changed t i c.requires.0 (below_256 t (search rules)) (λ _. taken c.args.h (reserved c.args.n)) c.reserve.new.s k (omega arith) c.reserve.ensures
