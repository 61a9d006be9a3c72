-- `reports::lines::put_lines` meets its contract. The invariant: the lines of the slots passed were put. Assumes nothing.
use native.Mathlib.Omega.{arith}
use Rattle.texts.proofs.Writing.{wrote_length}
use Rattle.reports.proofs.FindingLines.{passed_none, pass_next}
use Rattle.reports.proofs.lines.put_lines.Goals as goal

pub loop-i-init : goal.loop-i-init
loop-i-init c = passed_none c.args.report.now c.args.text.now (omega arith)

pub put_line-requires : goal.put_line-requires
put_line-requires c =
    let p = c.loop-i.invariant in
    (omega (arith, c.loop-i-test.true, c.requires.0), omega (arith, c.loop-i-test.true, c.requires.0, c.requires.1, p.short, wrote_length p.put.wrote))

pub loop-i-preserved : goal.loop-i-preserved
loop-i-preserved c =
    let h = c.loop-i-test.true in
    pass_next c.args.report.now c.args.text.now c.loop-i.i c.loop-i.text (omega (arith, h, c.requires.0)) h c.loop-i.invariant _ c.put_line.ensures
