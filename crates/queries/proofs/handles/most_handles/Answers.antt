-- `queries::handles::most_handles` meets its contract. Assumes nothing.
use borrow.Author.Tests.{eq-eqb, ne_eqb}
use Rattle.queries.proofs.handles.most_handles.Goals as goal

pub returns-then-limit-eq0 : goal.returns-then-limit-eq0
returns-then-limit-eq0 c = simp (eq-eqb _ _ c.if-limit-eq0.true)

pub returns : goal.returns
returns c = rw c.from.ensures (simp (ne_eqb _ _ c.if-limit-eq0.false))
