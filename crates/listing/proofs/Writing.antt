-- The words between the numbers of a line. Assumes nothing.
use Prim.Native.Nat.{ℕ, zero, suc, ◌^◌, ◌≤◌, ◌<◌}
use mathlib.Core.Path.{◌≡◌, refl}
use native.Mathlib.Omega.{arith}
use lib.ListN.{length}
use Rattle.profile.specs.Text.{text}
use Rattle.texts.specs.Written.{number}
use Rattle.texts.specs.Put.{Put}
use Rattle.texts.specs.declared.Text.{Text}
use Rattle.texts.proofs.Digits.{number_most, number_few}
use Rattle.texts.proofs.Writing.{put_then}
use Rattle.listing.specs.Written.{field, placed}

pub field_length : (n : ℕ) → length (field n) ≡ suc (length (number n))
unfolding field
field_length n = refl

pub field_most : (n : ℕ) → length (field n) ≤ 6
field_most n = omega (arith, field_length n, number_most n)

pub field_few : (k n : ℕ) → n < 10 ^ suc k → length (field n) ≤ suc (suc k)
field_few k n h = omega (arith, field_length n, number_few k n h)

pub field_there : (n : ℕ) {t t₁ t₂ : Text} → Put (text " ") t t₁ → Put (number n) t₁ t₂ → Put (field n) t t₂
unfolding field
field_there n w v = put_then w v

pub placed_few : (p : ℕ) → length (placed p) ≤ 8
unfolding placed
placed_few zero = omega arith
placed_few (suc zero) = omega arith
placed_few (suc (suc zero)) = omega arith
placed_few (suc (suc (suc p))) = omega arith
