-- `turning::marks::mark_slots` meets its contract. The invariant: the first i slots are turned, and the others as they were. Assumes nothing.
use mathlib.Core.Path.{◌≡◌}
use lib.ListN.{length}
use Rattle.turning.proofs.Marked.{marked_to}
use Rattle.turning.proofs.marks.mark_slots.Given as goal

abbrev pub invariant-loop-i : goal.invariant-loop-i
invariant-loop-i l = (l.t ≡ marked_to l.i l.initial.t) × (length l.t ≡ length l.initial.t)
