-- `tables::marks::marks_of` meets its contract. The invariant: the first i are the marks of the first i slots. Assumes nothing.
use mathlib.Core.Path.{◌≡◌}
use mathlib.Core.List.{map}
use lib.ListN.{length, take}
use Rattle.tables.specs.Marks.{mark_in}
use Rattle.tables.proofs.marks.marks_of.Given as goal

abbrev pub invariant-loop-i : goal.invariant-loop-i
invariant-loop-i l = (length l.marks ≡ 16) × (take l.i l.marks ≡ take l.i (map mark_in l.slots))
