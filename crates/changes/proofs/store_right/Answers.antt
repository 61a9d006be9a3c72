-- `changes::store_right` meets its contract: the part that was lent is the slot, and is back as the changed one. Assumes nothing.
use Prim.Native.Nat.{◌+◌, ◌-◌, ◌*◌}
use native.Mathlib.Omega.{arith}
use Rattle.profile.specs.Slot.{enabled, taken}
use Rattle.changes.specs.Change.{right_from}
use Rattle.octets.proofs.ByteBounds.{below_256}
use Rattle.changes.proofs.Lent.{lent_placed, changed}
use borrow.Author.Rules.{rules}
use Rattle.changes.proofs.store_right.Goals as goal

pub install-requires : goal.install-requires
install-requires c =
    let i = c.args.i in
    (lent_placed c.args.t.now i c.requires.0 1 (4288 * i + 4288 - 4288 * i) (omega arith) c.requires.1, c.requires.2, c.requires.3, c.requires.4)

pub returns : goal.returns
returns c =
    let a = c.args in
    let t = a.t.now in
    let i = a.i in
    let k = 4288 * i + 4288 - 4288 * i in
    changed t i c.requires.0 (below_256 t (search rules)) (λ _. taken a.h (enabled (right_from a.key a.count a.hashes a.n a.src.now a.at)))
    c.install.new.s k (omega arith) c.install.ensures
