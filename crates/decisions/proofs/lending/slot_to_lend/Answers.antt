-- `decisions::lending::slot_to_lend` meets its contract, by what was decided before and whether the new handle is in use. Assumes nothing.
use mathlib.Core.Path.{sym, ◌∙◌}
use borrow.Author.Rules.{rules}
use Rattle.std.proofs.lemmas.Result.{err_from_is_err_and}
use Rattle.decisions.specs.Decisions.{lendable}
use Rattle.decisions.proofs.Deciding.{refused_before, refused_then, passed}
use Rattle.decisions.proofs.lending.slot_to_lend.Goals as goal

pub returns-in_err-record : goal.returns-in_err-record
returns-in_err-record c =
    let p = err_from_is_err_and c.from_residual.result c.from_residual.ensures.1 in
    let d = c.slot_under.ensures.decided lendable (λ q b e. search rules) in
    rw (p.1, p.2) (refused_before _ _ _ _ (sym d ∙ c.in_err-record.was))

pub returns-then-in_use : goal.returns-then-in_use
returns-then-in_use c =
    let d = c.slot_under.ensures.decided lendable (λ q b e. search rules) in
    refused_then _ _ _ _ (sym d ∙ c.in_ok-record.was) (sym c.in_use.ensures ∙ c.if-in_use.true)

pub returns : goal.returns
returns c =
    let d = c.slot_under.ensures.decided lendable (λ q b e. search rules) in
    passed _ _ _ _ (sym d ∙ c.in_ok-record.was) (sym c.in_use.ensures ∙ c.if-in_use.false)
