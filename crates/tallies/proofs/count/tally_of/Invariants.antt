-- `tallies::count::tally_of` meets its contract. The invariant: with what the slots from the index on add, the numbers are those of the table. Assumes nothing.
use Rattle.tallies.proofs.Counting.{Counted}
use Rattle.tallies.proofs.count.tally_of.Given as goal

abbrev pub invariant-loop-s : goal.invariant-loop-s
invariant-loop-s l = Counted l.t l.s-index l.places l.payload
