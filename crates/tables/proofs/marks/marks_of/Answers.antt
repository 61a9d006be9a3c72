-- `tables::marks::marks_of` meets its contract. The invariant: the first i are the marks of the first i slots. Assumes nothing.
use mathlib.Core.Path.{refl}
use native.Mathlib.Omega.{arith}
use borrow.Author.Rules.{rules}
use Rattle.tables.proofs.Marking.{one_more, all_there}
use Rattle.tables.proofs.marks.marks_of.Goals as goal

pub returns-then-slots-gt-MARKS : goal.returns-then-slots-gt-MARKS
returns-then-slots-gt-MARKS c = record { sixteen = refl; marks = λ few. absurd (omega (arith, few)); more = λ many. refl }

pub loop-i-preserved : goal.loop-i-preserved
loop-i-preserved c = (search rules, rw c.mark_of.ensures (one_more c.args.slots.now c.loop-i.marks c.loop-i.i c.loop-i-test.true (omega arith) c.loop-i.invariant.1))

pub returns : goal.returns
returns c =
    record {
      sixteen = c.loop-i.invariant.0;
      marks = λ few. all_there c.args.slots.now c.loop-i.marks c.loop-i.i (omega (arith, c.loop-i-test.false)) c.loop-i.invariant.1;
      more = λ many. absurd (omega (arith, many));
    }
