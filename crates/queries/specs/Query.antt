-- How the two queries answer.
use Rattle.std.specs.Prelude.{ℕ, ◌/◌, eqb, if◌then◌else◌}
use Rattle.profile.specs.Bytes.{Bytes}
use Rattle.profile.specs.Sizes.{most_slots, handle_size}
use Rattle.profile.specs.Request.{Request}
use Rattle.profile.specs.Agent.{replied}
use Rattle.decisions.specs.Serving.{answer_to}

-- the reply buffer after the request, as the agent leaves it
abbrev pub reply_to : ℕ → Request → Bytes → Bytes → Bytes
reply_to kind q table buffer = (replied kind (answer_to table q) table buffer).reply

-- PROFILE 5.8: how many handles a limit lets through. With 0 it is none, and a table has a handle for each slot at the most
abbrev pub most_of : ℕ → ℕ
most_of limit = if eqb limit 0 then most_slots else limit / handle_size
