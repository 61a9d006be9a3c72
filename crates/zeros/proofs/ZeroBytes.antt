-- Zero bytes, looked at one by one or block by block. Assumes nothing.
use Prim.Native.Nat.{ℕ, zero, suc, ◌+◌, ◌-◌, ◌*◌, ◌≤◌, ◌<◌}
use mathlib.Core.Path.{◌≡◌, refl, sym, ap, ◌∙◌}
use mathlib.Core.List.{List, [], ◌∷◌, ◌++◌}
use mathlib.Core.Bool.{Bool, true, false, ◌&&◌, and_assoc, and-false}
use native.Mathlib.Nat.{zero-mul, suc-mul}
use native.Mathlib.Numerals.{add-one}
use native.Mathlib.Omega.{arith}
use lib.Dec.{eqb}
use lib.Bits.{bit_or, or_add_and, and_le_l, and_le_r}
use lib.ListN.{length, get_or, take, drop, take-append-drop}
use lib.Seq.{drop-cons, drop-drop}
use borrow.Author.Tests.{eq-eqb, ne_eqb, eqb-true, eqb-false}
use Rattle.std.specs.Simd.{first_chunks}
use Rattle.profile.specs.Bytes.{Bytes, joined, all_zero}
use Rattle.profile.proofs.Strings.{zero_drop}

-- the OR of two numbers is 0 where both are
pub or_is_zero : (a b : ℕ) → eqb (bit_or a b) 0 ≡ (eqb a 0 && eqb b 0)
or_is_zero a b = go (eqb a 0) (eqb b 0) refl refl
  where
    go : (p q : Bool) → eqb a 0 ≡ p → eqb b 0 ≡ q → eqb (bit_or a b) 0 ≡ (p && q)
    go true true e f = eq-eqb (bit_or a b) 0 (omega (arith, eqb-true a 0 e, eqb-true b 0 f, or_add_and a b))
    go true false e f = ne_eqb (bit_or a b) 0 (λ (z : bit_or a b ≡ 0). eqb-false b 0 f (omega (arith, z, or_add_and a b, and_le_l a b, eqb-true a 0 e)))
    go false q e f = ne_eqb (bit_or a b) 0 (λ (z : bit_or a b ≡ 0). eqb-false a 0 e (omega (arith, z, or_add_and a b, and_le_r a b)))

-- a turn of the loop that ORs
pub or_pass : (s : Bytes) (i acc : ℕ) → i < length s → (eqb acc 0 && all_zero (drop i s)) ≡ (eqb (bit_or acc (get_or s i 0)) 0 && all_zero (drop (i + 1) s))
or_pass s i acc h = rw (add-one, drop-cons s i 0 h, or_is_zero, and_assoc)

-- all of a join is 0 where both parts are
pub zero_both : (a b : Bytes) → all_zero (a ++ b) ≡ (all_zero a && all_zero b)
zero_both [] b = refl
zero_both (x ∷ a) b = rw (zero_both a b, and_assoc)

zero_cut : (n : ℕ) (s : Bytes) → (all_zero (take n s) && all_zero (drop n s)) ≡ all_zero s
zero_cut n s = sym (zero_both (take n s) (drop n s)) ∙ ap all_zero (take-append-drop n s)

-- a turn over blocks: one that is all 0, and one that isn't, by the answer r
module _ (q : List Bytes) (i : ℕ) (b : Bytes) (h : i < length q) (e : b ≡ get_or q i b) (r : Bool) (f : r ≡ all_zero b) where
  pub block_zero : r ≡ true → all_zero (joined (drop i q)) ≡ all_zero (joined (drop (i + 1) q))
  block_zero z = rw (drop-cons q i b h, add-one, ← e, zero_both, ← f, z)

  pub block_other : r ≡ false → all_zero (joined (drop i q)) ≡ r
  block_other z = rw (drop-cons q i b h, ← e, zero_both, ← f, z)

-- k blocks of n bytes, and the bytes after them
chunks_zero : (n k : ℕ) (s : Bytes) → (all_zero (joined (first_chunks n k s)) && all_zero (drop (k * n) s)) ≡ all_zero s
chunks_zero n zero s = rw zero-mul
chunks_zero n (suc k) s =
    let e : n + k * n ≡ suc k * n = rw suc-mul (omega arith) in
    rw (← e, ← drop-drop (k * n) n s, zero_both, and_assoc, chunks_zero n k (drop n s)) (zero_cut n s)

-- k blocks that are all 0, and those that aren't, by the answer r. The bytes t are those after them, and may be some of theirs too.
module _ (n k : ℕ) (s : Bytes) (q : List Bytes) (e : q ≡ first_chunks n k s) (r : Bool) (f : r ≡ all_zero (joined q)) where
  both : (r && all_zero (drop (k * n) s)) ≡ all_zero s
  both = rw (f, e) (chunks_zero n k s)

  pub blocks_zero : (m : ℕ) (t : Bytes) → t ≡ drop m s → m ≤ k * n → r ≡ true → all_zero t ≡ all_zero s
  blocks_zero m t g h z = ap all_zero g ∙ go (all_zero (drop m s)) refl
    where
      within : drop (k * n - m) (drop m s) ≡ drop (k * n) s
      within =
          let i : m + (k * n - m) ≡ k * n = omega arith in
          rw (drop-drop (k * n - m) m s, i)

      go : (d : Bool) → all_zero (drop m s) ≡ d → all_zero (drop m s) ≡ all_zero s
      go true y = y ∙ sym (rw within at (zero_drop (k * n - m) (drop m s) y)) ∙ (rw z at both)
      go false y = y ∙ (rw (y, and-false) at (zero_cut m s))

  pub blocks_other : r ≡ false → r ≡ all_zero s
  blocks_other z = z ∙ (rw z at both)
