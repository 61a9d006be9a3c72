-- `tables::table::stands_again` meets its contract: an empty slot has no handle, one whose mark stands once stands once, and any other's
-- is looked for in the slots after it. Assumes nothing.
use mathlib.Core.Path.{sym, ◌∙◌}
use mathlib.Core.Bool.{true≢false}
use Rattle.profile.proofs.Logic.{not_false}
use Rattle.slots.proofs.Places.{not_empty, empty_number}
use Rattle.tables.proofs.Turns.{again_empty, again_used}
use Rattle.tables.proofs.Marking.{mark_once}
use Rattle.tables.proofs.table.stands_again.Goals.{then-ne, else-ne}
use Rattle.tables.proofs.table.stands_again.Goals as goal

pub returns-then-not-stands_once : goal.returns-then-not-stands_once
returns-then-not-stands_once c =
    let place = c.place_of in
    let handle = (rw c.unwrap-handle.ensures at c.as_array.ensures.cases).same in
    elim c.if-ne.branch [
      | then-ne w ↦ again_used c.args.slots.now c.args.i c.requires.0 (λ e. not_empty place.result (sym c.ne.ensures ∙ w.if-ne.true) (place.ensures ∙ e)) _ handle _
          c.used_in.ensures
      | else-ne w ↦ absurd (true≢false (sym c.if-not-stands_once.true ∙ w.value-is ∙ w.if-ne.false))
    ]

pub returns-else-not-stands_once : goal.returns-else-not-stands_once
returns-else-not-stands_once c =
    let ss = c.args.slots.now in
    let i = c.args.i in
    let place = c.place_of in
    elim c.if-ne.branch [
      | then-ne w ↦ c.if-not-stands_once.false
          ∙ sym
          (mark_once ss c.args.marks.now i c.requires.0 c.requires.1 w.mark_of.result
          w.mark_of.ensures
          (sym w.stands_once.ensures ∙ not_false _ (sym w.value-is ∙ c.if-not-stands_once.false))
          (λ e. not_empty place.result (sym c.ne.ensures ∙ w.if-ne.true) (place.ensures ∙ e)))
      | else-ne w ↦ c.if-not-stands_once.false
          ∙ sym (again_empty ss i c.requires.0 (sym place.ensures ∙ empty_number place.result (sym c.ne.ensures ∙ w.if-ne.false)))
    ]
