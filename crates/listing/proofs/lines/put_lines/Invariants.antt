-- `listing::lines::put_lines` meets its contract. The invariant: the lines of the slots passed were put. Assumes nothing.
use Rattle.listing.proofs.SlotLines.{Passed}
use Rattle.listing.proofs.lines.put_lines.Given as goal

abbrev pub invariant-loop-i : goal.invariant-loop-i
invariant-loop-i l = Passed l.table l.initial.text l.i l.text
