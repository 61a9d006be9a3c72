-- `salvage::salvage` meets its contract: refused by the table's length, refused by the report buffer's, or every slot settled. Assumes nothing.
use mathlib.Core.Path.{sym, ◌∙◌}
use native.Mathlib.Omega.{arith}
use Rattle.salvage.proofs.Outcomes.{by_length, by_report, by_slots, few_left}
use Rattle.salvage.proofs.salvage.Goals as goal

pub returns-then-not-whole_slots-clause-is : goal.returns-then-not-whole_slots-clause-is
returns-then-not-whole_slots-clause-is c = by_length c.args.table.now c.args.report.now (sym c.whole_slots.ensures ∙ c.if-not-whole_slots.true)

pub returns-then-report-table-clause-is : goal.returns-then-report-table-clause-is
returns-then-report-table-clause-is c = by_report c.args.table.now c.args.report.now (sym c.whole_slots.ensures ∙ c.if-not-whole_slots.false) c.if-report-table.true

pub returns-clause-is : goal.returns-clause-is
returns-clause-is c = by_slots c.args.table.now c.args.report.now (sym c.whole_slots.ensures ∙ c.if-not-whole_slots.false)
    (omega (arith, c.if-report-table.false)) _ _ _ c.leave_slots.ensures.0 c.leave_slots.ensures.1 c.leave_slots.ensures.2

pub returns-clause-few : goal.returns-clause-few
returns-clause-few c = few_left c.args.table.now (sym c.whole_slots.ensures ∙ c.if-not-whole_slots.false) c.leave_slots.result c.leave_slots.ensures.0
