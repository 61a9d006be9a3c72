-- `turning::marks::mark_slots` meets its contract. The invariant: the first i slots are turned, and the others as they were. Assumes nothing.
use mathlib.Core.Path.{refl, ap, ◌∙◌}
use native.Mathlib.Omega.{arith}
use Prim.Native.Nat.{◌+◌, ◌-◌, ◌*◌}
use lib.ListN.{length}
use Rattle.turning.proofs.Marked.{marked_length, marked_none, marked_all, lent_marks, mark_again}
use Rattle.turning.proofs.marks.mark_slots.Goals as goal

pub loop-i-init : goal.loop-i-init
loop-i-init c = (marked_none c.args.t.now c.requires.0, refl)

pub mark_slot-requires : goal.mark_slot-requires
mark_slot-requires c =
    let i = c.loop-i.i in
    lent_marks c.args.t.now c.requires.0 i c.loop-i-test.true (4288 * i + 4288 - 4288 * i) (omega arith) c.loop-i.t c.loop-i.invariant.0 c.requires.1

pub loop-i-preserved : goal.loop-i-preserved
loop-i-preserved c =
    let t = c.args.t.now in
    let i = c.loop-i.i in
    let e = mark_again t c.requires.0 i c.loop-i-test.true (4288 * i + 4288 - 4288 * i) (omega arith) c.loop-i.t c.loop-i.invariant.0 c.mark_slot.new.s c.mark_slot.ensures in
    (e, ap length e ∙ marked_length t c.requires.0 (i + 1))

pub returns : goal.returns
returns c = c.loop-i.invariant.0 ∙ marked_all c.args.t.now c.requires.0 c.loop-i.i c.loop-i-test.false
