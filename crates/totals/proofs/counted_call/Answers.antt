-- `totals::counted_call` meets its contract: the call, with what its return did added to the totals. Assumes nothing.
use mathlib.Core.Path.{◌≡◌, refl, ap, ◌∙◌}
use Rattle.std.proofs.lemmas.Result.{err_from_is_err_and}
use borrow.Author.Rules.{rules}
use lib.IntN.{ℤ}
use mir.Syntax.{w32}
use mir.Val.{SFits, to_z, of_z}
use mir.Facts.{to_z-of_z}
use Rattle.profile.specs.Total.{totals_with, with_return}
use Rattle.serving.specs.Call.{call_of}
use Rattle.totals.specs.Returns.{return_said}
use Rattle.totals.proofs.Outcomes.{with_totals, refused_totals}
use Rattle.totals.proofs.counted_call.Goals as goal

pub with_return-sum-requires : goal.with_return-sum-requires
with_return-sum-requires c =
    let total_is : to_z w32 (of_z w32 c.args.total.now) ≡ c.args.total.now = to_z-of_z {w = w32} (record { sfits = search rules }) in
    rw total_is c.requires

pub returns-in_err-called : goal.returns-in_err-called
returns-in_err-called c =
    let a = c.args in
    let p = err_from_is_err_and c.from_residual.result c.from_residual.ensures.1 in
    rw (p.1, p.2) (refused_totals a.table.now (call_of a.tally a.start a.frame.now a.reply.now) a.total.now a.returns.now a.change.now c.requires _ c.in_err-called.ensures.calls _ c.in_err-called.ensures.tells refl)

pub returns : goal.returns
returns c =
    let a = c.args in
    let sum = c.with_return-sum in
    let total_is : to_z w32 (of_z w32 a.total.now) ≡ a.total.now = to_z-of_z {w = w32} (record { sfits = search rules }) in
    let total_fits : SFits w32 sum.result.total = record { sfits = search rules } in
    let change_fits : SFits w32 sum.result.change = record { sfits = search rules } in
    rw (to_z-of_z total_fits, to_z-of_z change_fits)
    (with_totals a.table.now (call_of a.tally a.start a.frame.now a.reply.now) a.total.now a.returns.now a.change.now c.requires _ c.in_ok-called.ensures.calls _ c.in_ok-called.ensures.tells sum.result
    (sum.ensures.sums ∙ ap (λ (z : ℤ). with_return (return_said c.in_ok-called.called.change) (totals_with z a.returns.now)) total_is)
    sum.ensures.says)
