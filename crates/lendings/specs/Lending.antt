-- What kinds 3 and 4 give of the right that they lend.
use Rattle.std.specs.Prelude.{ℕ, eqb, if◌then◌else◌}
use Rattle.profile.specs.Slot.{Right}
use Rattle.profile.specs.Agent.{Given, the_right, the_key}
use Rattle.lendings.specs.declared.Lending.{Lending}
use Rattle.lendings.specs.declared.Lending.TheVariants.{Retrieval, RekQuery}

-- their numbers
abbrev pub kind_of : Lending → ℕ
kind_of Retrieval = 3
kind_of RekQuery = 4

-- kind 3 gives the right, kind 4 its key
abbrev pub lent_by : ℕ → Right → Given
lent_by kind r = if eqb kind 3 then the_right r else the_key r.key
