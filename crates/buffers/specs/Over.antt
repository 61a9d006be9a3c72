-- Bytes written over a part of a buffer.
use Rattle.std.specs.Prelude.{ℕ, ◌+◌, ◌++◌, length, take, drop}
use Rattle.profile.specs.Bytes.{Bytes}

-- d with xs written from an offset on, and the rest as it was
unfoldable pub over_at : ℕ → Bytes → Bytes → Bytes
over_at at xs d = take at d ++ xs ++ drop (at + length xs) d
