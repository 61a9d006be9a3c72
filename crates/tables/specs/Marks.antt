-- Marks: one byte for each handle, by which most handles are told apart at once.
use Rattle.std.specs.Prelude.{ℕ, suc, ◌≤◌, ◌<◌, ◌≡◌, List, [], ◌∷◌, map, eqb, length, get_or, take, replicate, if◌then◌else◌}
use Rattle.std.specs.Int.Bits.{bit_xor}
use Rattle.profile.specs.Bytes.{Bytes, part}

-- the mark of a handle, and that of a slot's bytes: equal handles have equal marks
unfoldable pub mark_of : Bytes → ℕ
mark_of h = bit_xor (get_or h 8 0) (get_or h 9 0)

unfoldable pub mark_in : Bytes → ℕ
mark_in s = mark_of (part 1 10 s)

-- how often a number stands among some
unfoldable pub times_of : ℕ → List ℕ → ℕ
times_of x [] = 0
times_of x (y ∷ ys) = if eqb y x then suc (times_of x ys) else times_of x ys

-- sixteen numbers: of no more slots than that, their marks stand first; of more, all are 0
pub record Marked (ss : List Bytes) (m : List ℕ) : Type 0 where
  pub sixteen : length m ≡ 16
  pub marks : length ss ≤ 16 → take (length ss) m ≡ map mark_in ss
  pub more : 16 < length ss → m ≡ replicate 16 0
