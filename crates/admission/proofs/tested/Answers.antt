-- `admission::tested` meets its contract: the numbers 101, 102, 105, 103 and 106, in this order, or 0. Assumes nothing.
use mathlib.Core.Path.{sym, ap, ◌∙◌}
use native.Mathlib.Omega.{arith}
use Rattle.profile.specs.Tally.{same_tally}
use Rattle.admission.proofs.TestLaws.{tests_101, tests_102, tests_105, tests_103, tests_106, tests_0}
use Rattle.admission.proofs.tested.Goals as goal

pub returns-then-reply-lt-REPLY_ROOM : goal.returns-then-reply-lt-REPLY_ROOM
returns-then-reply-lt-REPLY_ROOM c =
    let a = c.args in
    tests_101 a.table.now a.tally a.start a.reply.now c.if-reply-lt-REPLY_ROOM.true

pub returns-then-not-whole_slots : goal.returns-then-not-whole_slots
returns-then-not-whole_slots c =
    let a = c.args in
    tests_102 a.table.now a.tally a.start a.reply.now c.if-reply-lt-REPLY_ROOM.false (sym c.whole_slots.ensures ∙ c.if-not-whole_slots.true)

pub returns-then-table-start : goal.returns-then-table-start
returns-then-table-start c =
    let a = c.args in
    tests_105 a.table.now a.tally a.start a.reply.now c.if-reply-lt-REPLY_ROOM.false (sym c.whole_slots.ensures ∙ c.if-not-whole_slots.false) c.if-table-start.true

pub returns-then-not-well_table : goal.returns-then-not-well_table
returns-then-not-well_table c =
    let a = c.args in
    tests_103 a.table.now a.tally a.start a.reply.now c.if-reply-lt-REPLY_ROOM.false (sym c.whole_slots.ensures ∙ c.if-not-whole_slots.false) (omega (arith, c.if-table-start.false)) (sym c.well_table.ensures ∙ c.if-not-well_table.true)

pub tally_of-requires : goal.tally_of-requires
tally_of-requires c = ((sym c.whole_slots.ensures ∙ c.if-not-whole_slots.false), (sym c.well_table.ensures ∙ c.if-not-well_table.false))

pub returns-then-not-same : goal.returns-then-not-same
returns-then-not-same c =
    let a = c.args in
    tests_106 a.table.now a.tally a.start a.reply.now c.if-reply-lt-REPLY_ROOM.false (sym c.whole_slots.ensures ∙ c.if-not-whole_slots.false) (omega (arith, c.if-table-start.false)) (sym c.well_table.ensures ∙ c.if-not-well_table.false) (sym (c.same.ensures
    ∙ ap (same_tally c.args.tally) c.tally_of.ensures) ∙ c.if-not-same.true)

pub returns : goal.returns
returns c =
    let a = c.args in
    tests_0 a.table.now a.tally a.start a.reply.now c.if-reply-lt-REPLY_ROOM.false (sym c.whole_slots.ensures ∙ c.if-not-whole_slots.false) (omega (arith, c.if-table-start.false)) (sym c.well_table.ensures ∙ c.if-not-well_table.false) (sym (c.same.ensures
    ∙ ap (same_tally c.args.tally) c.tally_of.ensures) ∙ c.if-not-same.false)
