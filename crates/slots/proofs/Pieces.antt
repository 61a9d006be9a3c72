-- Byte strings cut into pieces of one length, piece by piece. Assumes nothing.
use Prim.Native.Nat.{ℕ, zero, suc, ◌+◌, ◌*◌, ◌<◌, ◌≤◌}
use mathlib.Core.Path.{◌≡◌, refl, sym, ap, ◌∙◌}
use mathlib.Core.List.{List, [], ◌∷◌, ◌++◌}
use native.Mathlib.Omega.{arith}
use native.Mathlib.Nat.{mul-zero, not-suc-le-zero, le_of_suc-le-suc}
use native.Mathlib.Numerals.{add-one}
use lib.ListN.{length, get_or, take, drop, length-drop, take-append-drop}
use lib.Seq.{drop-cons, drop-drop, length-take-le, take-append-le, drop-append-le}
use Rattle.profile.specs.Bytes.{Bytes, part, pieces}
use Rattle.profile.proofs.Strings.{length_pieces}

module _ (k : ℕ) where
  pub get_d_pieces : (n i : ℕ) (s : Bytes) → i < n → get_or (pieces k n s) i [] ≡ part (k * i) k s
  get_d_pieces zero i s h = absurd (not-suc-le-zero h)
  get_d_pieces (suc n) zero s h = rw (mul-zero k)
  get_d_pieces (suc n) (suc i) s h = get_d_pieces n i (drop k s) (le_of_suc-le-suc h) ∙ ap (take k) (drop-drop (k * i) k s ∙ ap (λ (m : ℕ). drop m s) e)
    where
      e : k + k * i ≡ k * suc i
      e = omega arith

  -- what is left from piece i on: it, and what is left after it
  pub pieces_step : (n i : ℕ) (s : Bytes) → i < n → drop i (pieces k n s) ≡ part (k * i) k s ∷ drop (i + 1) (pieces k n s)
  pieces_step n i s h = rw (add-one, ← get_d_pieces n i s h) (drop-cons (pieces k n s) i [] (rw (length_pieces k n s) h))

  -- pieces that end within the first part of a string are those of that part
  pub pieces_front : (n : ℕ) (s rest : Bytes) → k * n ≤ length s → pieces k n (s ++ rest) ≡ pieces k n s
  pieces_front zero s rest h = refl
  pieces_front (suc n) s rest h =
      rw (take-append-le k s rest (omega arith), drop-append-le k s rest (omega arith))
      (ap {B = List Bytes} (λ r. take k s ∷ r) (pieces_front n (drop k s) rest (rw (length-drop k s) (omega arith))))

  pub pieces_within : (n m : ℕ) (s : Bytes) → k * n ≤ m → m ≤ length s → pieces k n (take m s) ≡ pieces k n s
  pieces_within n m s h l = sym (pieces_front n (take m s) (drop m s) (rw (length-take-le m s l) h)) ∙ ap (pieces k n) (take-append-drop m s)
