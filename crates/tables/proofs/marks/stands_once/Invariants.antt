-- `tables::marks::stands_once` meets its contract. The invariant: those found, and those among the rest. Assumes nothing.
use mathlib.Core.Path.{◌≡◌}
use Prim.Native.Nat.{◌≤◌, ◌+◌}
use lib.ListN.{drop}
use Rattle.tables.specs.Marks.{times_of}
use Rattle.tables.proofs.marks.stands_once.Given as goal

abbrev pub invariant-loop-i : goal.invariant-loop-i
invariant-loop-i l = (l.found ≤ l.i) × (times_of l.mark l.marks ≡ l.found + times_of l.mark (drop l.i l.marks))
