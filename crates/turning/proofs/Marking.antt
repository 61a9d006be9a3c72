-- One slot: byte 0 with the bit of a count. Assumes nothing.
use Prim.Native.Nat.{ℕ, ◌+◌, ◌*◌, ◌%◌}
use mathlib.Core.Path.{◌≡◌, sym, ap, ◌∙◌}
use mathlib.Core.List.{[], ◌∷◌}
use native.Mathlib.Omega.{arith}
use borrow.Author.Tests.{eq-eqb, ne_eqb}
use lib.ListN.{length, set}
use Rattle.profile.specs.Bytes.{Bytes, word, Bytes256}
use Rattle.profile.specs.Table.{place_of, hash_count_of, kept_of, spare_of}
use Rattle.profile.specs.Turning.{turn_slot}
use Rattle.profile.proofs.Strings.{low_two}

-- a count of 0: the slot stays
pub unmarked : (s : Bytes) (n : ℕ) → n ≡ word 27 s → n ≡ 0 → s ≡ turn_slot s
unmarked s n e z = rw (eq-eqb (word 27 s) 0 (sym e ∙ z))

-- another count: byte 0 gets the bit
pub marked : (s : Bytes) (b place hashes n : ℕ) → Bytes256 s → length s ≡ 4288 → kept_of s ≡ 0 → spare_of s ≡ 0 → n ≡ word 27 s → (n ≡ 0 → ⊥)
    → place ≡ place_of s → hashes ≡ hash_count_of s → b ≡ 64 * place + 4 * hashes + 2 * 1 → set s 0 b ≡ turn_slot s
marked [] b place hashes n bytes l k z e c p h q = absurd (omega arith)
marked (x ∷ s) b place hashes n bytes l k z e c p h q =
    rw (ne_eqb (word 27 (x ∷ s)) 0 (λ w. c (e ∙ w))) (ap {B = Bytes} (λ (y : ℕ). y ∷ s) (q ∙ omega (arith, low, bytes 0, p, h)))
  where
    low : x % 4 ≡ 0
    low = low_two x ∙ rw (k, z)
