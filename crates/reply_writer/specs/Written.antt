-- What the writer puts in front of a body, and what kind 9 gives of a right.
use Rattle.std.specs.Prelude.{ℕ, ◌∷◌}
use Rattle.profile.specs.Bytes.{Bytes, word_bytes}
use Rattle.profile.specs.Slot.{Right}
use Rattle.profile.specs.Frame.{frame_head}
use Rattle.profile.specs.Agent.{Given, counted}

-- the four bytes in front of a body of n bytes (PROFILE 3.2)
abbrev pub head_of : ℕ → ℕ → ℕ → Bytes
head_of kind second n = frame_head kind ∷ second ∷ word_bytes n

-- the count and the payload
abbrev pub info_of : Right → Given
info_of r = counted r.count r.payload
