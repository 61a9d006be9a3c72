-- `cavernlull::cavernlull_read_reply` meets its contract: what is told of the frame is left, or nothing is changed. Assumes nothing.
use mathlib.Core.Path.{ap}
use Prim.Native.Nat.{ℕ}
use Rattle.cavernlull.proofs.SmallNumbers.{reads_small}
use Rattle.cavernlull.proofs.ReadInto.{reads_into}
use Rattle.cavernlull.specs.Numbers.{left}
use Rattle.cavernlull.proofs.cavernlull_read_reply.Goals as goal

pub numbers_of-told_fields-requires : goal.numbers_of-told_fields-requires
numbers_of-told_fields-requires c = reads_small c.args.frame.now _ c.in-Ok.ensures

pub returns-in-Ok : goal.returns-in-Ok
returns-in-Ok c = reads_into c.args.frame.now c.args.key.now c.args.fields.now _ _ c.in-Ok.ensures (ap (left 0 c.in-Ok.told.key) c.numbers_of-told_fields.ensures)

pub returns-in-Err : goal.returns-in-Err
returns-in-Err c = reads_into c.args.frame.now c.args.key.now c.args.fields.now _ _ c.in-Err.ensures (ap (λ (n : ℕ). left n c.args.key.now c.args.fields.now) c.number.ensures)
