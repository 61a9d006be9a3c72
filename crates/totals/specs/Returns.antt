-- What a change of the slots says of a return, and the values of the crate's types in the profile's words.
use Rattle.std.specs.Prelude.{ℕ, ℤ, Option, None, Some}
use Rattle.profile.specs.Agent.{Outcome}
use Rattle.profile.specs.Total.{Return, no_return, returned, Totals, totals_with, Totalled}
use Rattle.tallies.specs.declared.update.Change.{Change}
use Rattle.tallies.specs.declared.update.Change.TheVariants.{Same, Moved, Returned}
use Rattle.totals.specs.declared.total.Added.{Added}

-- PROFILE 4.4: a right was returned where a slot came from disabled to enabled
abbrev pub return_said : Change → Return
return_said Same = no_return
return_said (Moved p m q n) = no_return
return_said (Returned m a n b) = returned a b

-- both counts of a return that is counted: the one stored, then the one sent
abbrev pub counts_of : Return → Option (ℕ × ℕ)
counts_of no_return = None
counts_of (returned None sent) = None
counts_of (returned (Some a) None) = None
counts_of (returned (Some a) (Some b)) = Some (a, b)

-- PROFILE 4.5: total and returns
abbrev pub totals_in : Added → Totals
totals_in a = totals_with a.total a.returns

-- what is left: the outcome of the call, total and returns, and the change
abbrev pub totalled : Outcome → ℤ → ℕ → ℤ → Totalled
totalled o total returns change = record { outcome = o; totals = totals_with total returns; change = change }
