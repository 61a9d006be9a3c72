-- A contract that speaks of a test by the list that it gives: two outcomes that meet it are equal. Assumes nothing.
use mathlib.Core.Path.{◌≡◌, refl, sym, ap, ◌∙◌}
use mathlib.Core.Bool.{Bool, true, false}
use mathlib.Core.List.{List, [], ◌∷◌}
use native.Mathlib.Omega.{arith}
use lib.ListN.{length}
use Rattle.std.specs.Prelude.{if◌then◌else◌}
use Rattle.profile.specs.Bytes.{Bytes}

-- `is_listed`: a list with a handle is not the empty one
pub one_listed : (x : Bytes) (a b : Bool) {l : List Bytes} → l ≡ (if a then x ∷ [] else []) → l ≡ (if b then x ∷ [] else []) → a ≡ b
one_listed x true true e f = refl
one_listed x true false e f = absurd (omega (arith, ap length (sym e ∙ f)))
one_listed x false true e f = absurd (omega (arith, ap length (sym e ∙ f)))
one_listed x false false e f = refl
