-- What a call gives by value.
use Rattle.profile.specs.Tally.{Tally}
use Rattle.tallies.specs.declared.update.Change.{Change}
use Rattle.agent.specs.declared.Called.{Called}

-- the tally afterwards, and what was done to the slots; of a call that is refused, the tally that it was given, and nothing
abbrev pub called : Tally → Change → Called
called tally change = record { tally = tally; change = change }
