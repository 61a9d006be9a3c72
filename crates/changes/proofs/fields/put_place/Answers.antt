-- `changes::fields::put_place` meets its contract: a byte stored is a field written. Assumes nothing.
use mathlib.Core.Path.{ap, ◌∙◌}
use mathlib.Core.List.{[], ◌∷◌}
use Prim.Native.Nat.{ℕ}
use native.Mathlib.Omega.{arith}
use Rattle.buffers.specs.Over.{over_at}
use Rattle.changes.proofs.OverFields.{over_byte}
use Rattle.changes.proofs.fields.put_place.Goals as goal

pub returns : goal.returns
returns c =
    let s = c.args.s.now in
    over_byte s c.with_place.result (omega (arith, c.requires)) ∙ ap (λ (b : ℕ). over_at 0 (b ∷ []) s) c.with_place.ensures
