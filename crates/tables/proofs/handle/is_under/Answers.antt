-- `tables::handle::is_under` meets its contract: an empty slot has no handle, any other has that of its bytes 1 to 10. Assumes nothing.
use mathlib.Core.Path.{sym, ap, ◌∙◌}
use mathlib.Core.Bool.{not}
use Rattle.slots.proofs.Places.{is_empty}
use Rattle.slots.proofs.Unpacking.{named_same, named_differs}
use Rattle.tables.proofs.handle.is_under.Goals as goal

pub returns-then-same_from : goal.returns-then-same_from
returns-then-same_from c =
    c.ne.ensures
    ∙ ap not (is_empty c.place_of.result)
    ∙ named_same c.args.s.now c.args.h.now c.told-h (sym c.same_from.ensures ∙ c.if-same_from.true) _ c.place_of.ensures

pub returns-else-same_from : goal.returns-else-same_from
returns-else-same_from c = c.if-same_from.false ∙ sym (named_differs c.args.s.now c.args.h.now c.told-h (sym c.same_from.ensures ∙ c.if-same_from.false))
