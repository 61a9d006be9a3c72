-- Laws of bytes written over a part of a buffer. Assumes nothing.
use mathlib.Core.Path.{◌≡◌, sym, ap, ◌∙◌}
use mathlib.Core.List.{◌++◌, append_assoc}
use Prim.Native.Nat.{ℕ, ◌+◌, ◌≤◌}
use native.Mathlib.Omega.{arith}
use native.Mathlib.Nat.{zero-add}
use lib.ListN.{length, take, drop, length-append, length-drop}
use lib.Seq.{take_at, length-take-le, drop-drop, drop_at}
use borrow.Rule.Slice.PartMut.{put_mid}
use Rattle.profile.specs.Bytes.{Bytes, over}
use Rattle.buffers.specs.Over.{over_at}

-- from the start it is a frame at the start of a buffer
pub over_start : (xs d : Bytes) → over_at 0 xs d ≡ over xs d
unfolding over_at over
over_start xs d = rw (zero-add (length xs))

head_length : (xs d : Bytes) (at : ℕ) → at ≤ length d → length (take at d ++ xs) ≡ at + length xs
head_length xs d at h = rw (length-append, length-take-le)

pub over_length : (xs d : Bytes) (at : ℕ) → at + length xs ≤ length d → length (over_at at xs d) ≡ length d
unfolding over_at
over_length xs d at h =
    let e : length (take at d ++ xs) ≡ at + length xs = head_length xs d at (omega arith) in
    rw (length-append, e, length-drop) (omega arith)

-- bytes written just after bytes: one writing of both
pub over_more : (xs ys d : Bytes) (at n : ℕ) → n ≡ at + length xs → n + length ys ≤ length d → over_at n ys (over_at at xs d) ≡ over_at at (xs ++ ys) d
unfolding over_at
over_more xs ys d at n e h =
    let p : Bytes = take at d ++ xs in
    let q : length p ≡ n = head_length xs d at (omega arith) ∙ sym e in
    let t : take n (p ++ drop (at + length xs) d) ≡ p = take_at p (drop (at + length xs) d) n q in
    let u : drop (n + length ys) (p ++ drop (at + length xs) d) ≡ drop (n + length ys) d =
    sym (drop-drop (length ys) n (p ++ drop (at + length xs) d))
    ∙ ap (λ (l : Bytes). drop (length ys) l) (drop_at p (drop (at + length xs) d) n q ∙ ap (λ (k : ℕ). drop k d) (sym e)) ∙ drop-drop (length ys) n d in
    let v : at + length (xs ++ ys) ≡ n + length ys = rw length-append (omega arith) in
    rw (t, u, v) (ap (λ (l : Bytes). l ++ drop (n + length ys) d) (append_assoc (take at d) xs ys))

-- what stands after the bytes written
module _ (xs d : Bytes) (at : ℕ) (h : at + length xs ≤ length d) where
  pub over_after : drop (at + length xs) (over_at at xs d) ≡ drop (at + length xs) d
  unfolding over_at
  over_after = drop_at (take at d ++ xs) (drop (at + length xs) d) (at + length xs) (head_length xs d at (omega arith))

-- a part of k bytes that was lent is back as a copy of s
pub over_copied : (d s y : Bytes) (at k : ℕ) → k ≡ length s → y ≡ s → put_mid at k d y ≡ over_at at s d
unfolding over_at
over_copied d s y at k l e = rw (e, l, drop-drop) (sym (append_assoc (take at d) s (drop (at + length s) d)))
