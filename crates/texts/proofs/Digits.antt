-- Numbers in decimal: the kit's digits are the profile's, and how many there are. Assumes nothing.
use Prim.Native.Nat.{ℕ, zero, suc, ◌+◌, ◌-◌, ◌/◌, ◌%◌, ◌^◌, ◌≤◌, ◌<◌}
use mathlib.Core.Path.{◌≡◌, ◌∙◌}
use native.Mathlib.Nat.{mod-lt, mod-eq_of_lt, pow-suc, one-le-pow}
use native.Mathlib.Omega.{arith}
use lib.Dec.{ltb}
use lib.ListN.{length, take, length-append}
use borrow.Author.Tests.{lt-ltb, le-ltb}
use Rattle.io.specs.Digits.{hex_digit_ascii, last_digits as shown, IsDigitCount}
use Rattle.profile.specs.Bytes.{Bytes}
use Rattle.profile.specs.Listing.{digits}
use Rattle.profile.proofs.Logic.{if_cases}
use Rattle.texts.specs.Written.{number}

-- ---- the kit's digits
glyph_digit : (n : ℕ) → hex_digit_ascii (n % 10) ≡ 48 + n % 10
glyph_digit n = rw (lt-ltb (n % 10) 10 (mod-lt n (omega arith)))

glyph_one : (n : ℕ) → n < 10 → hex_digit_ascii (n % 10) ≡ 48 + n
glyph_one n h = rw (mod-eq_of_lt h, lt-ltb n 10 h)

-- a number of more than one digit is 10 or more
ten : (k n : ℕ) → 10 ^ suc k ≤ n → 10 ≤ n
ten k n h = omega (arith, pow-suc 10 k, one-le-pow k 10 (omega arith))

-- what the fewest digits say of two or more
module _ (k n : ℕ) (f : IsDigitCount 10 1 n (suc (suc k))) where
  from_power : 10 ^ suc k ≤ n
  from_power = let e : suc (suc k) - 1 ≡ suc k = omega arith in rw e at (f.2 (omega arith))

  fewest_rest : IsDigitCount 10 1 (n / 10) (suc k)
  fewest_rest =
      let e : suc k - 1 ≡ k = omega arith in
      (omega arith, omega (arith, f.1, pow-suc 10 (suc k)), λ l. rw e (omega (arith, from_power, pow-suc 10 k)))

shown_digits : (d k n : ℕ) → n < 10 ^ suc d → IsDigitCount 10 1 n k → shown 10 k n ≡ digits d n
shown_digits d zero n h f = absurd (omega (arith, f.0))
shown_digits zero (suc zero) n h f = rw (glyph_one n f.1)
shown_digits (suc d) (suc zero) n h f = rw (glyph_one n f.1, lt-ltb n 10 f.1)
shown_digits zero (suc (suc k)) n h f = absurd (omega (arith, ten k n (from_power k n f)))
shown_digits (suc d) (suc (suc k)) n h f =
    rw (le-ltb n 10 (ten k n (from_power k n f)), glyph_digit n, shown_digits d (suc k) (n / 10) (omega (arith, pow-suc 10 (suc d))) (fewest_rest k n f))

pub shown_number : (n k : ℕ) (out : Bytes) → n < 65536 → IsDigitCount 10 1 n k → take k out ≡ shown 10 k n → take k out ≡ number n
unfolding number
shown_number n k out h f e = e ∙ shown_digits 4 k n (omega arith) f

-- ---- how many digits
digits_most : (d n : ℕ) → length (digits d n) ≤ suc d
digits_most zero n = omega arith
digits_most (suc d) n = if_cases (λ (l : Bytes). length l ≤ suc (suc d)) (ltb n 10) (λ e. omega arith) (λ e. simp length-append (omega (arith, digits_most d (n / 10))))

pub number_most : (n : ℕ) → length (number n) ≤ 5
unfolding number
number_most n = digits_most 4 n

digits_few : (d k n : ℕ) → n < 10 ^ suc k → length (digits d n) ≤ suc k
digits_few zero k n h = omega arith
digits_few (suc d) zero n h = rw (lt-ltb n 10 h) (omega arith)
digits_few (suc d) (suc k) n h =
    if_cases (λ (l : Bytes). length l ≤ suc (suc k)) (ltb n 10) (λ e. omega arith)
    (λ e. simp length-append (omega (arith, digits_few d k (n / 10) (omega (arith, pow-suc 10 (suc k))))))

pub number_few : (k n : ℕ) → n < 10 ^ suc k → length (number n) ≤ suc k
unfolding number
number_few k n h = digits_few 4 k n h
