-- `tables::marks::stands_once` meets its contract. The invariant: those found, and those among the rest. Assumes nothing.
use Prim.Native.Nat.{◌<◌}
use mathlib.Core.Path.{◌≡◌}
use native.Mathlib.Omega.{arith}
use lib.ListN.{length}
use Rattle.tables.specs.Marks.{times_of}
use Rattle.tables.proofs.Marking.{times_here, times_other, times_end}
use Rattle.tables.proofs.marks.stands_once.Goals.{then-marks-i, else-marks-i}
use Rattle.tables.proofs.marks.stands_once.Goals as goal

pub loop-i-preserved : goal.loop-i-preserved
loop-i-preserved c =
    let m = c.args.marks.now in
    let x = c.args.mark in
    let i = c.loop-i.i in
    let below : i < length m = omega (arith, c.told-marks, c.loop-i-test.true) in
    elim c.if-marks-i.branch [
      | then-marks-i w ↦ rw w.found-is (omega arith, omega (arith, c.loop-i.invariant.1, times_here x m i below w.if-marks-i.true))
      | else-marks-i w ↦ rw w.found-is (omega arith, omega (arith, c.loop-i.invariant.1, times_other x m i below w.if-marks-i.false))
    ]

pub returns : goal.returns
returns c =
    let e : times_of c.args.mark c.args.marks.now ≡ c.loop-i.found = omega (arith, c.loop-i.invariant.1, times_end c.args.mark c.args.marks.now c.loop-i.i (omega (arith, c.told-marks, c.loop-i-test.false))) in
    rw e
