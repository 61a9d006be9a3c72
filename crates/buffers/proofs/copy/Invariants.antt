-- `buffers::copy` meets its contract. The invariant: i bytes of s, and the rest of d as it was. Assumes nothing.
use mathlib.Core.Path.{◌≡◌}
use mathlib.Core.List.{◌++◌}
use lib.ListN.{length, take, drop}
use Rattle.buffers.proofs.copy.Given as goal

abbrev pub invariant-loop-i : goal.invariant-loop-i
invariant-loop-i l = (length l.d ≡ length l.initial.d) × (l.d ≡ take l.i l.s ++ drop l.i l.initial.d)
