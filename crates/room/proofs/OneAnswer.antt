-- The contract of `first_empty_from` speaks of the slot, or of the number of slots where there is none: two outcomes that meet it are
-- equal. Assumes nothing.
use Prim.Native.Nat.{ℕ}
use mathlib.Core.Path.{◌≡◌, refl, sym, ap, ◌∙◌}
use mathlib.Core.List.{List}
use native.Mathlib.Omega.{arith}
use Rattle.std.specs.Prelude.{Option, Some, None}
use Rattle.profile.specs.Slot.{Slot}
use Rattle.room.proofs.Searching.{IsFirst}

pub one_first : (start : ℕ) (t : List Slot) (n : ℕ) (r q : Option ℕ) → IsFirst start t n r → IsFirst start t n q → r ≡ q
one_first start t n None None a b = refl
one_first start t n None (Some j) a (f, k) = absurd (omega (arith, a, f, k))
one_first start t n (Some i) None (e, h) b = absurd (omega (arith, b, e, h))
one_first start t n (Some i) (Some j) (e, h) (f, k) = ap Some (e ∙ sym f)
