-- `slots::well::well_rest` meets its contract: an empty slot, and any other. Assumes nothing.
use mathlib.Core.Path.{sym, ◌∙◌}
use Rattle.profile.proofs.Logic.{eqb_eq}
use Rattle.slots.proofs.Places.{is_empty}
use Rattle.slots.proofs.WellSlots.{empty_slot}
use Rattle.slots.proofs.well.well_rest.Goals as goal

pub returns-then-eq : goal.returns-then-eq
returns-then-eq c =
    let head = c.head_of-head in
    c.all_zero.ensures
    ∙ sym (empty_slot c.args.s.now (sym head.ensures.place_is ∙ eqb_eq _ 0 (sym (is_empty head.result.place) ∙ sym c.eq.ensures ∙ c.if-eq.true)))
