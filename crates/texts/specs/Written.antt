-- What was put into a buffer, and the pieces that all texts have.
use Rattle.std.specs.Prelude.{ℕ, ◌+◌, ◌≤◌, ◌≡◌, ◌++◌, length}
use Rattle.profile.specs.Bytes.{Bytes}
use Rattle.profile.specs.Text.{text}
use Rattle.profile.specs.Listing.{decimal, refused_line}
use Rattle.buffers.specs.Over.{over_at}

-- bytes stand at an offset of a buffer, which was d and is d', and end within it
pub record Wrote (xs : Bytes) (at : ℕ) (d d' : Bytes) (end : ℕ) : Type 0 where
  pub ends : end ≡ at + length xs
  pub inside : end ≤ length d
  pub written : d' ≡ over_at at xs d

-- a number in decimal; a line of a word and a number; the line of a refused table
unfoldable pub number : ℕ → Bytes
number n = decimal n

unfoldable pub numbered : Bytes → ℕ → Bytes
numbered word n = word ++ number n ++ text "\n"

unfoldable pub refusal : ℕ → Bytes
refusal n = refused_line n
