-- `totals::call_totalling` meets its contract: given back with 108, or called, with what its return did added to the totals. Assumes nothing.
use mathlib.Core.Bool.{not}
use mathlib.Core.Path.{◌≡◌, sym, ap, ◌∙◌}
use borrow.Author.Rules.{rules}
use lib.IntN.{ℤ}
use mir.Syntax.{w32}
use mir.Val.{to_z, of_z}
use mir.Facts.{to_z-of_z}
use Rattle.profile.specs.Total.{totals_with, totals_hold}
use Rattle.serving.specs.Call.{call_of}
use Rattle.totals.proofs.Outcomes.{given_108}
use Rattle.totals.proofs.call_totalling.Goals as goal

pub returns-then-not-holds : goal.returns-then-not-holds
returns-then-not-holds c =
    let total_is : to_z w32 (of_z w32 c.args.total.now) ≡ c.args.total.now = to_z-of_z {w = w32} (record { sfits = search rules }) in
    let holds_is : c.holds.result ≡ totals_hold (totals_with c.args.total.now c.args.returns.now) =
    c.holds.ensures ∙ ap (λ (z : ℤ). totals_hold (totals_with z c.args.returns.now)) total_is in
    given_108 c.args.table.now (call_of c.args.tally c.args.start c.args.frame.now c.args.reply.now) c.args.total.now c.args.returns.now c.args.change.now c.holds.result holds_is (ap not c.if-not-holds.true)

pub counted_call-requires : goal.counted_call-requires
counted_call-requires c =
    let total_is : to_z w32 (of_z w32 c.args.total.now) ≡ c.args.total.now = to_z-of_z {w = w32} (record { sfits = search rules }) in
    let holds_is : c.holds.result ≡ totals_hold (totals_with c.args.total.now c.args.returns.now) =
    c.holds.ensures ∙ ap (λ (z : ℤ). totals_hold (totals_with z c.args.returns.now)) total_is in
    sym holds_is ∙ c.if-not-holds.false
