-- `turning::turn` meets its contract: refused by length, refused by the rules before, or every slot turned. Assumes nothing.
use mathlib.Core.Path.{sym, ◌∙◌}
use Rattle.turning.proofs.Marked.{slots_before}
use Rattle.turning.proofs.Outcomes.{by_length, by_rules, by_marks}
use Rattle.turning.proofs.turn.Goals as goal

pub returns-then-not-whole_slots : goal.returns-then-not-whole_slots
returns-then-not-whole_slots c =
    let t = c.args.table.now in
    by_length t (sym c.whole_slots.ensures ∙ c.if-not-whole_slots.true)

pub returns-then-not-well_by : goal.returns-then-not-well_by
returns-then-not-well_by c = by_rules c.args.table.now (sym c.whole_slots.ensures ∙ c.if-not-whole_slots.false) (sym c.well_by.ensures ∙ c.if-not-well_by.true)

pub mark_slots-requires : goal.mark_slots-requires
mark_slots-requires c = (
  sym c.whole_slots.ensures ∙ c.if-not-whole_slots.false,
  slots_before c.args.table.now (sym c.well_by.ensures ∙ c.if-not-well_by.false),
)

pub returns : goal.returns
returns c = by_marks c.args.table.now (sym c.whole_slots.ensures ∙ c.if-not-whole_slots.false) (sym c.well_by.ensures ∙ c.if-not-well_by.false) _ c.mark_slots.ensures
