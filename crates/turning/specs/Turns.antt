-- What the turning gives, by its parts.
use Rattle.std.specs.Prelude.{ℕ}
use Rattle.profile.specs.Bytes.{Bytes}
use Rattle.profile.specs.Turning.{Turned}

-- the number, and the table afterwards
abbrev pub turned : ℕ → Bytes → Turned
turned n table = record { number = n; table = table }
