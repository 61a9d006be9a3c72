-- The four counts of a tally in one number, and read from it again (PROFILE 2.8). Assumes nothing.
use Prim.Native.Nat.{ℕ, ◌+◌, ◌*◌, ◌/◌, ◌%◌, ◌≤◌, ◌<◌}
use mathlib.Core.Path.{◌≡◌, ◌∙◌}
use native.Mathlib.Omega.{arith}
use native.Mathlib.Nat.{zero-add, add-mul-div_left, div-eq_of_lt}
use Rattle.profile.specs.Tally.{Tally, tally_with}

-- four counts in one number, the empty slots lowest
abbrev pub packed : Tally → ℕ
packed y = y.empty + 65536 * y.reserved + 4294967296 * y.enabled + 281474976710656 * y.disabled

-- of a number with a lane of 16 bits or several lanes at its lower end: what stands above them, and the lowest lane
above : (w n low high : ℕ) → n ≡ low + w * high → low < w → n / w ≡ high
above w n low high e h = rw e (add-mul-div_left low high {y = w} (omega arith) ∙ rw (div-eq_of_lt h) (zero-add high))

lowest : (n low high : ℕ) → n ≡ low + 65536 * high → low < 65536 → n % 65536 ≡ low
lowest n low high e h = omega arith

-- the four counts are read from the number again
pub unpacked : (y : Tally) (n m : ℕ) → y.empty + y.reserved + y.enabled + y.disabled ≤ 15 → n ≡ packed y → m ≡ y.payload
    → tally_with (n % 65536) (n / 65536 % 65536) (n / 4294967296 % 65536) (n / 281474976710656) m ≡ y
unpacked y n m few e p = λ k. tally_with (empties k) (reservations k) (rights k) (rest k) (p k)
  where
    empties : n % 65536 ≡ y.empty
    empties = lowest n _ (y.reserved + 65536 * y.enabled + 4294967296 * y.disabled) (omega arith) (omega arith)

    reservations : n / 65536 % 65536 ≡ y.reserved
    reservations =
        lowest (n / 65536) _ (y.enabled + 65536 * y.disabled)
        (above 65536 n y.empty (y.reserved + 65536 * (y.enabled + 65536 * y.disabled)) (omega arith) (omega arith)) (omega arith)

    rights : n / 4294967296 % 65536 ≡ y.enabled
    rights =
        lowest (n / 4294967296) _ y.disabled
        (above 4294967296 n (y.empty + 65536 * y.reserved) (y.enabled + 65536 * y.disabled) (omega arith) (omega arith)) (omega arith)

    rest : n / 281474976710656 ≡ y.disabled
    rest = above 281474976710656 n (y.empty + 65536 * y.reserved + 4294967296 * y.enabled) _ (omega arith) (omega arith)
