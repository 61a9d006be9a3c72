-- `salvage::finding::find` meets its contract: the slot's own tests, and then those of the slots below it. Assumes nothing.
use mathlib.Core.Path.{sym, ◌∙◌}
use native.Mathlib.Omega.{arith}
use Rattle.salvage.proofs.Below.{alone, finds_damage, finds_none, finds_again, finds_once}
use Rattle.salvage.proofs.finding.find.Goals as goal

pub returns-then-not-well_table : goal.returns-then-not-well_table
returns-then-not-well_table c = finds_damage c.args.t.now c.args.i c.requires _ c.slot_at-s.ensures.0 (sym (alone _ c.slot_at-s.ensures.1) ∙ sym c.well_table.ensures ∙ c.if-not-well_table.true)

pub returns-then-slot_place-eq0 : goal.returns-then-slot_place-eq0
returns-then-slot_place-eq0 c = finds_none c.args.t.now c.args.i c.requires _ c.slot_at-s.ensures.0 (sym (alone _ c.slot_at-s.ensures.1) ∙ sym c.well_table.ensures ∙ c.if-not-well_table.false)
    (omega (arith, c.slot_place.ensures, c.if-slot_place-eq0.true))

pub returns-then-in_use : goal.returns-then-in_use
returns-then-in_use c = finds_again c.args.t.now c.args.i c.requires _ c.slot_at-s.ensures.0 (sym (alone _ c.slot_at-s.ensures.1) ∙ sym c.well_table.ensures ∙ c.if-not-well_table.false)
    (λ e. omega (arith, c.slot_place.ensures, c.if-slot_place-eq0.false)) _ c.array_at.ensures (sym c.in_use.ensures ∙ c.if-in_use.true)

pub returns : goal.returns
returns c = finds_once c.args.t.now c.args.i c.requires _ c.slot_at-s.ensures.0 (sym (alone _ c.slot_at-s.ensures.1) ∙ sym c.well_table.ensures ∙ c.if-not-well_table.false)
    (λ e. omega (arith, c.slot_place.ensures, c.if-slot_place-eq0.false)) _ c.array_at.ensures (sym c.in_use.ensures ∙ c.if-in_use.false)
