-- `changes::fields::put_head` meets its contract: a byte stored is a field written. Assumes nothing.
use mathlib.Core.Path.{ap, ◌∙◌}
use mathlib.Core.List.{[], ◌∷◌}
use Prim.Native.Nat.{ℕ}
use native.Mathlib.Omega.{arith}
use Rattle.buffers.specs.Over.{over_at}
use Rattle.changes.proofs.OverFields.{over_byte}
use Rattle.changes.proofs.fields.put_head.Goals as goal

pub returns : goal.returns
returns c =
    let s = c.args.s.now in
    over_byte s c.slot_head.result (omega (arith, c.requires.1))
    ∙ ap (λ (b : ℕ). over_at 0 (b ∷ []) s) (omega (arith, c.slot_head.ensures, c.number.ensures.0, c.kept_bit.ensures.0))
