-- `cavernlull::has_room` meets its contract: a total of 32 bits is itself. Assumes nothing.
use mathlib.Core.Path.{◌≡◌, ap, ◌∙◌}
use lib.IntN.{ℤ}
use mir.Syntax.{w32}
use mir.Val.{to_z, of_z}
use mir.Facts.{to_z-of_z}
use borrow.Author.Rules.{rules}
use Rattle.profile.specs.Total.{totals_with, totals_hold}
use Rattle.cavernlull.proofs.has_room.Goals as goal

pub returns : goal.returns
returns c =
    let total_is : to_z w32 (of_z w32 c.args.total.now) ≡ c.args.total.now = to_z-of_z {w = w32} (record { sfits = search rules }) in
    c.holds.ensures ∙ ap (λ (z : ℤ). totals_hold (totals_with z c.args.returns.now)) total_is
