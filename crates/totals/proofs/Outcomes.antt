-- The totalling call, outcome by outcome. Assumes nothing.
use Prim.Native.Nat.{ℕ, ◌+◌}
use mathlib.Core.Path.{◌≡◌, refl, sym, ap, ◌∙◌}
use native.Mathlib.Omega.{arith}
use mathlib.Core.Bool.{Bool, true, not}
use lib.IntN.{ℤ, pos, ◌+ℤ◌, +ℤ_idr}
use Rattle.profile.specs.Bytes.{Bytes}
use Rattle.profile.specs.Table.{slots_of}
use Rattle.profile.specs.Agent.{Call, Outcome, refuse, agent}
use Rattle.profile.specs.Total.{Return, no_return, return_of, change, change_of, totals_with, totals_hold, with_return, totalling}
use Rattle.profile.proofs.Logic.{not_true}
use Rattle.profile.proofs.Total.{refused_108, called}
use Rattle.tallies.specs.declared.update.Change.{Change}
use Rattle.tallies.specs.declared.update.Change.TheVariants.{Same}
use Rattle.tallies.specs.Changes.{change_in}
use Rattle.totals.specs.declared.total.Added.{Added}
use Rattle.totals.specs.Returns.{return_said, totals_in, totalled}
use Rattle.totals.proofs.Telling.{tells_return}

module _ (table : Bytes) (c : Call) (z : ℤ) (n : ℕ) (was : ℤ) where
  pub given_108 : (b : Bool) → b ≡ totals_hold (totals_with z n) → not b ≡ true → totalled (refuse 108 table c) z n was ≡ totalling table c (totals_with z n) was
  given_108 b e f = sym (refused_108 table c (totals_with z n) was (sym e ∙ not_true b f))

  -- the call was made, and told what it did to the slots
  module _ (hold : totals_hold (totals_with z n) ≡ true) (o : Outcome) (e : o ≡ agent table c) (told : Change) (f : told ≡ change_in (slots_of table) (slots_of o.table)) where
    said : return_said told ≡ return_of table c
    said = ap return_said (f ∙ ap (λ (x : Outcome). change_in (slots_of table) (slots_of x.table)) e) ∙ tells_return table c

    pub with_totals : (a : Added) → totals_in a ≡ with_return (return_said told) (totals_with z n) → a.change ≡ change (return_said told)
        → totalled o a.total a.returns a.change ≡ totalling table c (totals_with z n) was
    with_totals a g h = (λ i. record { outcome = e i; totals = totals i; change = changes i }) ∙ sym (called table c (totals_with z n) was hold)
      where
        totals : totals_in a ≡ with_return (return_of table c) (totals_with z n)
        totals = g ∙ ap (λ (r : Return). with_return r (totals_with z n)) said

        changes : a.change ≡ change_of table c
        changes = h ∙ ap change said

    -- the call was refused: it did nothing to the slots, and nothing is added
    pub refused_totals : told ≡ Same → totalled o z n (pos 0) ≡ totalling table c (totals_with z n) was
    refused_totals e0 = with_totals (record { total = z; returns = n; change = pos 0 }) (rw e0 kept) (rw e0 refl)
      where
        kept : totals_with z n ≡ with_return no_return (totals_with z n)
        kept = λ i. totals_with (same_total i) (same_returns i)
          where
            same_total : z ≡ z +ℤ pos 0
            same_total = sym (+ℤ_idr z)

            same_returns : n ≡ n + 0
            same_returns = omega arith
