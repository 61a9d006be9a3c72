-- The size of a signed sum and of a difference, as bounds on numbers, which omega reads.
use mathlib.Core.Path.{◌≡◌, refl}
use mathlib.Core.Bool.{Bool, true, false, cond}
use Prim.Native.Nat.{ℕ, zero, suc, ◌+◌, ◌-◌, ◌≤◌}
use native.Mathlib.Omega.{arith}
use lib.Dec.{ltb}
use lib.IntN.{ℤ, pos, negsuc, nat_abs, sub_ℕ, ◌+ℤ◌, ◌-ℤ◌}
use Rattle.profile.proofs.Logic.{ltb_lt}

picked : (t : Bool) (x y n : ℕ) → (t ≡ true → suc x ≤ n) → (t ≡ false → y ≤ n) → nat_abs (cond t (negsuc x) (pos y)) ≤ n
picked true x y n f g = f refl
picked false x y n f g = g refl

sub_size : (a b n : ℕ) → a ≤ n → b ≤ n → nat_abs (sub_ℕ a b) ≤ n
sub_size a b n p q = picked (ltb a b) (b - suc a) (a - b) n (λ e. omega (arith, ltb_lt a b e)) (λ e. omega arith)

-- a difference of two numbers is at most the greater
pub difference_size : (a b n : ℕ) → a ≤ n → b ≤ n → nat_abs (pos a -ℤ pos b) ≤ n
difference_size a zero n p q = omega arith
difference_size a (suc b) n p q = sub_size a (suc b) n p q

-- a sum is at most the sum of the sizes
pub sum_size : (x y : ℤ) → nat_abs (x +ℤ y) ≤ nat_abs x + nat_abs y
sum_size (pos a) (pos b) = omega arith
sum_size (pos a) (negsuc b) = sub_size a (suc b) (a + suc b) (omega arith) (omega arith)
sum_size (negsuc a) (pos b) = sub_size b (suc a) (suc a + b) (omega arith) (omega arith)
sum_size (negsuc a) (negsuc b) = omega arith
