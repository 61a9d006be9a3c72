-- PROFILE 2.8 and 8.5: the tally said once more, and what holds of it along a sequence of calls.
use Rattle.std.specs.Prelude.{◌+◌, ◌≡◌, List, [], ◌∷◌, length}
use Rattle.profile.specs.Bytes.{Bytes}
use Rattle.profile.specs.Slot.{Slot}
use Rattle.profile.specs.Tally.{Tally, tally_of}
use Rattle.profile.specs.Agent.{Call, agent}

-- every slot is counted once, under one place
abbrev pub CountsAll : List Slot → Type 0
CountsAll t = (tally_of t).empty + (tally_of t).reserved + (tally_of t).enabled + (tally_of t).disabled ≡ length t

-- the calls are lent one tally, which each of them finds as the one before it left it
abbrev pub Carries : Bytes → Tally → List Call → Type 0
Carries table tally [] = Unit {0}
Carries table tally (c ∷ cs) = (c.tally ≡ tally) × Carries (agent table c).table (agent table c).tally cs
