-- One of several fields that stand one after another is written over: the others stay. Assumes nothing.
use Prim.Native.Nat.{ℕ, zero, suc, ◌+◌, ◌-◌, ◌≤◌, ◌<◌}
use mathlib.Core.Path.{◌≡◌, refl, sym, ap, ◌∙◌}
use mathlib.Core.List.{List, [], ◌∷◌, ◌++◌, map, append_assoc}
use native.Mathlib.Omega.{arith}
use native.Mathlib.Nat.{not-suc-le-zero, le_of_suc-le-suc, add_assoc, zero-add}
use lib.ListN.{length, get_or, take, drop, set, replicate-append-replicate}
use lib.Seq.{drop_at, take-append-add, drop-append-add}
use Rattle.profile.specs.Bytes.{Bytes, zeros, joined}
use Rattle.profile.proofs.Strings.{total}
use Rattle.buffers.specs.Over.{over_at}

-- after some bytes, writing goes on as if they were not there
over_after : (p d x : Bytes) (at : ℕ) → over_at (length p + at) x (p ++ d) ≡ p ++ over_at at x d
unfolding over_at
over_after p d x at =
    rw (take-append-add p d at, add_assoc (length p) at (length x), drop-append-add p d (at + length x), append_assoc p (take at d) x, append_assoc p (take at d ++ x) (drop (at + length x) d))

-- field i of some fields is written over by bytes of its length
pub over_field : (ps : List Bytes) (i at : ℕ) (x : Bytes) → i < length ps → total (take i (map length ps)) ≡ at → length x ≡ length (get_or ps i [])
    → over_at at x (joined ps) ≡ joined (set ps i x)
unfolding over_at
over_field [] i at x h e l = absurd (not-suc-le-zero h)
over_field (p ∷ ps) zero at x h e l = rw (← e, zero-add (length x), drop_at p (joined ps) (length x) (sym l))
over_field (p ∷ ps) (suc i) at x h e l =
    rw (← e) (over_after p (joined ps) x (total (take i (map length ps))) ∙ ap (λ (r : Bytes). p ++ r) (over_field ps i (total (take i (map length ps))) x (le_of_suc-le-suc h) refl l))

-- a byte that is stored is a field of one byte
pub over_byte : (s : Bytes) (b : ℕ) → 0 < length s → set s 0 b ≡ over_at 0 (b ∷ []) s
unfolding over_at
over_byte [] b h = absurd (not-suc-le-zero h)
over_byte (x ∷ s) b h = refl

-- zero bytes are two fields of zero bytes
pub zeros_split : (a n : ℕ) → a ≤ n → zeros n ≡ zeros a ++ zeros (n - a)
unfolding zeros
zeros_split a n h =
    let e : a + (n - a) ≡ n = omega arith in
    sym (replicate-append-replicate a (n - a) 0 ∙ ap zeros e)
