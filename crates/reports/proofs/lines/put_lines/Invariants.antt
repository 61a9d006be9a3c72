-- `reports::lines::put_lines` meets its contract. The invariant: the lines of the slots passed were put. Assumes nothing.
use Rattle.reports.proofs.FindingLines.{Passed}
use Rattle.reports.proofs.lines.put_lines.Given as goal

abbrev pub invariant-loop-i : goal.invariant-loop-i
invariant-loop-i l = Passed l.report l.initial.text l.i l.text
