-- A call by its parts.
use Rattle.std.specs.Prelude.{ℕ}
use Rattle.profile.specs.Bytes.{Bytes}
use Rattle.profile.specs.Tally.{Tally}
use Rattle.profile.specs.Agent.{Call, Outcome}

-- the number, and the reply buffer, the table and the tally afterwards
abbrev pub outcome : ℕ → Bytes → Bytes → Tally → Outcome
outcome n reply table tally = record { number = n; reply = reply; table = table; tally = tally }

-- a call with this tally, from this start, with this frame and this reply buffer
abbrev pub call_of : Tally → ℕ → Bytes → Bytes → Call
call_of tally start frame buffer = record { tally = tally; start = start; request = frame; buffer = buffer }
