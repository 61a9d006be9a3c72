-- Two parts compared byte by byte, and one thing looked for among others. Assumes nothing.
use mathlib.Core.Path.{◌≡◌, sym, ◌∙◌}
use mathlib.Core.Bool.{Bool, true, false, ◌&&◌, or-true, and_assoc, and-true, and-false}
use mathlib.Core.List.{List, [], ◌∷◌, ◌++◌}
use Prim.Native.Nat.{ℕ, zero, suc, ◌+◌, ◌<◌, ◌≤◌}
use native.Mathlib.Nat.{not-suc-le-zero, le_of_suc-le-suc}
use native.Mathlib.Numerals.{add-one}
use native.Mathlib.Omega.{arith}
use lib.Dec.{eqb}
use lib.ListN.{length, take, drop, get_or, length-drop}
use lib.Seq.{take-suc, get_or-drop}
use borrow.Author.Tests.{eq-eqb, ne_eqb}
use Rattle.std.specs.Bool.{Decides, one_answer}
use Rattle.profile.specs.Bytes.{Bytes, part, same, any}
use Rattle.profile.proofs.Logic.{same_eq, same_refl}
use Rattle.profile.proofs.Strings.{length_part}
use Rattle.profile.proofs.Loops.{any_snoc}

-- what tells whether two strings are one is the test of the profile
decided : (r : Bool) (xs ys : Bytes) → Decides r (xs ≡ ys) → r ≡ same xs ys
decided r xs ys d = one_answer r (same xs ys) d (same_eq xs ys, λ e. rw e (same_refl ys))

same_snoc : (xs ys : Bytes) (x y : ℕ) → length xs ≡ length ys → same (xs ++ (x ∷ [])) (ys ++ (y ∷ [])) ≡ (same xs ys && eqb x y)
same_snoc [] [] x y l = and-true (eqb x y)
same_snoc [] (k ∷ ys) x y l = absurd (omega (arith, l))
same_snoc (k ∷ xs) [] x y l = absurd (omega (arith, l))
same_snoc (j ∷ xs) (k ∷ ys) x y l = rw (same_snoc xs ys x y (omega (arith, l)), and_assoc)

-- the whole of a in s at an offset, its last byte apart: one that differs decides, and else the others do
module _ (a s : Bytes) (at : ℕ) (xs : Bytes) (x : ℕ) (e : a ≡ xs ++ (x ∷ [])) (m : length xs + 1 ≡ length a) (h : at + length a ≤ length s) where
  apart : same a (part at (length a) s) ≡ (same xs (part at (length xs) s) && eqb x (get_or s (at + length xs) 0))
  apart =
      let i : length xs < length (drop at s) = rw length-drop (omega arith) in
      let f : part at (length a) s ≡ part at (length xs) s ++ (get_or s (at + length xs) 0 ∷ []) = rw (← m, add-one, take-suc (drop at s) (length xs) 0, get_or-drop) in
      rw (f, e) (same_snoc xs (part at (length xs) s) x (get_or s (at + length xs) 0) (sym (length_part at (length xs) s (omega arith))))

  pub same_last : x ≡ get_or s (at + length xs) 0 → (r : Bool) (k : ℕ) → k ≡ length xs → (length xs ≡ length (part at k s) → Decides r (xs ≡ part at k s)) → r ≡ same a (part at (length a) s)
  same_last f r k l d =
      decided r xs (part at k s) (d (sym (length_part at k s (omega arith) ∙ l))) ∙ rw l (sym (apart ∙ rw (eq-eqb x (get_or s (at + length xs) 0) f, and-true)))

  pub other_last : (x ≡ get_or s (at + length xs) 0 → ⊥) → eqb x (get_or s (at + length xs) 0) ≡ same a (part at (length a) s)
  other_last f =
      let n : eqb x (get_or s (at + length xs) 0) ≡ false = ne_eqb x (get_or s (at + length xs) 0) f in
      n ∙ sym (apart ∙ rw (n, and-false))

module _ {A : Type 0} (f : A → Bool) where
  -- a turn of a search, and its find
  pub any_more : (q : List A) (i : ℕ) (d : A) → i < length q → any f (take i q) ≡ false → f (get_or q i d) ≡ false → any f (take (i + 1) q) ≡ false
  any_more q i d h e g = rw (add-one, take-suc q i d, any_snoc f (take i q) (get_or q i d), e) g

  pub any_found : (q : List A) (n i : ℕ) (d : A) → i < n → i < length q → f (get_or q i d) ≡ true → any f (take n q) ≡ true
  any_found [] n i d p h e = absurd (not-suc-le-zero h)
  any_found (x ∷ q) zero i d p h e = absurd (not-suc-le-zero p)
  any_found (x ∷ q) (suc n) zero d p h e = rw e
  any_found (x ∷ q) (suc n) (suc i) d p h e = rw (any_found q n i d (le_of_suc-le-suc p) (le_of_suc-le-suc h) e) (or-true (f x))
