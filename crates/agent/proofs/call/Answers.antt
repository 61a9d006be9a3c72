-- `agent::call` meets its contract: given back with the number of a test that fails, or answered, with what was done to the slots. Assumes nothing.
use mathlib.Core.Path.{refl, sym, ap, ◌∙◌}
use Rattle.std.proofs.lemmas.Result.{err_from_is_err_and}
use Rattle.codes.specs.Codes.{number_in}
use Rattle.profile.specs.Table.{slots_of}
use Rattle.tallies.proofs.Changing.{none_moved}
use Rattle.agent.proofs.Steps.{not_0, passed, given_back, answered}
use Rattle.agent.proofs.call.Goals as goal

pub returns-in_err-tested-clause-calls : goal.returns-in_err-tested-clause-calls
returns-in_err-tested-clause-calls c =
    let a = c.args in
    let p = err_from_is_err_and c.from_residual.result c.from_residual.ensures.1 in
    rw (p.1, p.2) (given_back a.table.now a.tally a.start a.frame.now a.reply.now _ (sym (ap number_in c.in_err-tested.was) ∙ c.tested.ensures) (not_0 c.in_err-tested.field-0.0))

pub returns-in_err-tested-clause-tells : goal.returns-in_err-tested-clause-tells
returns-in_err-tested-clause-tells c =
    let p = err_from_is_err_and c.from_residual.result c.from_residual.ensures.1 in
    rw p.1 (sym (none_moved (slots_of c.args.table.now)))

pub answer-requires : goal.answer-requires
answer-requires c =
    let p = passed _ _ _ _ (sym c.tested.ensures ∙ ap number_in c.in_ok-tested.was) in
    (p.ready, p.inside)

pub returns-in_err-change-clause-calls : goal.returns-in_err-change-clause-calls
returns-in_err-change-clause-calls c =
    let a = c.args in
    let p = err_from_is_err_and c.from_residual-in_err-change.result c.from_residual-in_err-change.ensures.1 in
    rw (p.1, p.2) (answered a.table.now a.tally a.start a.frame.now a.reply.now _ c.tested.ensures (ap number_in c.in_ok-tested.was) (rw c.in_err-change.was at c.answer.ensures) a.tally refl)

pub updated-after-requires : goal.updated-after-requires
updated-after-requires c = rw (passed _ _ _ _ (sym c.tested.ensures ∙ ap number_in c.in_ok-tested.was)).lent (rw c.in_ok-change.was at c.answer.ensures).updates

pub returns-clause-calls : goal.returns-clause-calls
returns-clause-calls c =
    let a = c.args in
    answered a.table.now a.tally a.start a.frame.now a.reply.now _ c.tested.ensures (ap number_in c.in_ok-tested.was) (rw c.in_ok-change.was at c.answer.ensures) _ c.updated-after.ensures
