-- What stands at the start of a buffer after one more read. Assumes nothing.
use Rattle.std.proofs.Common.{◌≡◌, ◌∙◌, ℕ, ◌+◌, ◌≤◌, List, ◌++◌, length, take, ap, sym}
use lib.Seq.{length-take-le}
use Rattle.std.proofs.Math.Seq.{take-append-add}
use Rattle.std.proofs.lemmas.List.{take-append-le}

-- the first a bytes of s, and of those that were read behind them the first n
pub read_front : (a n : ℕ) (s p q : List ℕ) → a ≤ length s → n ≤ length p → take (a + n) (take a s ++ (p ++ q)) ≡ take a s ++ take n p
read_front a n s p q h k =
    ap (λ (m : ℕ). take (m + n) (take a s ++ (p ++ q))) (sym (length-take-le a s h))
    ∙ take-append-add (take a s) (p ++ q) n
    ∙ ap (λ (r : List ℕ). take a s ++ r) (take-append-le n p q k)
