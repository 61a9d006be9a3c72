-- What the parts of the request writer do.
use Rattle.std.specs.Prelude.{ℕ, ◌+◌, ◌*◌, List, ◌∷◌, ◌++◌, map}
use Rattle.std.specs.Borrow.{Bor}
use Rattle.profile.specs.Bytes.{Bytes, word_bytes, joined}
use Rattle.profile.specs.Frame.{frame_head}
use Rattle.profile.specs.Device.{Written}

-- a number, and the buffer afterwards
abbrev pub wrote : ℕ → Bytes → Written
wrote n buffer = record { number = n; buffer = buffer }

-- a head with the verdict 1, the bit of a count and the body length n, and what of the body follows it
abbrev pub started : ℕ → ℕ → ℕ → Bytes → Bytes
started kind kept n b = frame_head kind ∷ (128 + 64 * kept) ∷ word_bytes n ++ b

-- parts of a body, one after another
abbrev pub parts_joined : List (Bor Bytes) → Bytes
parts_joined parts = joined (map (λ part. part.now) parts)
