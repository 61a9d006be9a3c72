-- `queries::handles::put_handles` meets its contract. The invariant: the list over the slots passed is counted, and its first handles are in the reply. Assumes nothing.
use Rattle.queries.proofs.Growth.{Passed}
use Rattle.queries.proofs.handles.put_handles.Given as goal

abbrev pub invariant-loop-slot : goal.invariant-loop-slot
invariant-loop-slot l = Passed l.table l.initial.reply l.query l.most l.slot-index l.found l.reply
