-- `queries::handles::put_next` meets its contract: the handle is put, or the buffer stays. Assumes nothing.
use borrow.Author.Tests.{lt-ltb, le-ltb}
use Rattle.queries.proofs.handles.put_next.Goals as goal

pub returns-then-k-most : goal.returns-then-k-most
returns-then-k-most c = rw (lt-ltb _ _ c.if-k-most.true) c.put_handle.ensures

pub returns-else-k-most : goal.returns-else-k-most
returns-else-k-most c = simp (le-ltb _ _ c.if-k-most.false)
