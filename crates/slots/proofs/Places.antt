-- Places compared, and their numbers. Assumes nothing.
use mathlib.Core.Path.{◌≡◌, refl, sym, ◌∙◌}
use mathlib.Core.Bool.{Bool, true, false, false≢true, not}
use denote.Enum.Bare.{sameb}
use native.Mathlib.Omega.{arith}
use lib.Dec.{eqb}
use Rattle.profile.proofs.Logic.{eqb_eq, not_false}
use Rattle.slots.specs.contracts.place.Place.{the_type}
use Rattle.slots.specs.declared.place.Place.{Place}
use Rattle.slots.specs.declared.place.Place.TheVariants.{Empty, Reserved, Enabled, Disabled}
use Rattle.slots.specs.Places.{place_number}

-- only the place empty has number 0
pub is_empty : (p : Place) → sameb the_type p Empty ≡ eqb (place_number p) 0
is_empty Empty = refl
is_empty Reserved = refl
is_empty Enabled = refl
is_empty Disabled = refl

-- the same of the test for any other place
pub not_empty : (p : Place) → not (sameb the_type p Empty) ≡ true → place_number p ≡ 0 → ⊥
not_empty Empty e z = let f : ◌≡◌ {A = Bool} false true = e in false≢true f
not_empty Reserved e z = omega (arith, z)
not_empty Enabled e z = omega (arith, z)
not_empty Disabled e z = omega (arith, z)

pub empty_number : (p : Place) → not (sameb the_type p Empty) ≡ false → place_number p ≡ 0
empty_number p e = eqb_eq (place_number p) 0 (sym (is_empty p) ∙ not_false _ e)
