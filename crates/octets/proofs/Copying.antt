-- Hashes read one after another. Assumes nothing.
use mathlib.Core.Path.{◌≡◌, refl, sym, ap, ◌∙◌}
use mathlib.Core.List.{List, ◌++◌}
use Prim.Native.Nat.{ℕ, zero, suc, ◌+◌, ◌-◌, ◌*◌, ◌<◌}
use native.Mathlib.Numerals.{add-one}
use native.Mathlib.Omega.{arith}
use lib.ListN.{length, take, drop, set, replicate}
use lib.Seq.{drop-drop, drop-set-lt, take-suc-set, take_at}
use Rattle.profile.specs.Bytes.{Bytes, part, pieces}
use Rattle.profile.proofs.Strings.{length_pieces}
use Rattle.profile.proofs.Loops.{pieces_snoc}
use Rattle.octets.proofs.Parts.{part_drop}

-- a turn of reading pieces of k bytes from an offset on
pub pieces_more : (k : ℕ) (q : List Bytes) (i at : ℕ) (s : Bytes) → i < length q → take i q ≡ pieces k i (drop at s) → take (i + 1) (set q i (part (at + k * i) k s)) ≡ pieces k (i + 1) (drop at s)
pieces_more k q i at s h e =
    rw (add-one, take-suc-set, e, ← part_drop at (k * i) k s) (sym (pieces_snoc k i (drop at s)))

-- what is not read yet, from the turn on, stays as it was made
drop_one : (z : Bytes) (k : ℕ) → drop 1 (replicate k z) ≡ replicate (k - 1) z
drop_one z zero = refl
drop_one z (suc k) =
    let e : suc k - 1 ≡ k = omega arith in
    rw e

pub rest_more : (m : ℕ) (z : Bytes) (q : List Bytes) (i : ℕ) (x : Bytes) → drop i q ≡ replicate (m - i) z → drop (i + 1) (set q i x) ≡ replicate (m - (i + 1)) z
rest_more m z q i x e =
    let k : m - i - 1 ≡ m - (i + 1) = omega arith in
    drop-set-lt (i + 1) q i x (omega arith) ∙ sym (drop-drop 1 i q) ∙ ap (λ (l : List Bytes). drop 1 l) e ∙ rw (← k) (drop_one z (m - i))

-- the first of them are those that were read
pub pieces_first : (k n : ℕ) (s : Bytes) (q rest : List Bytes) → q ≡ pieces k n s ++ rest → take n q ≡ pieces k n s
pieces_first k n s q rest e = rw e (take_at (pieces k n s) rest n (length_pieces k n s))
