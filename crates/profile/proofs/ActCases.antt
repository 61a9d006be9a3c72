-- The worked cases of the nine kinds hold: computed.
use mathlib.Core.Path.{refl}
use Rattle.profile.specs.Bytes.{zeros}
use Rattle.profile.specs.Agent.{act, first_empty_from}
use Rattle.profile.specs.ActCases

pub acts_hold : ActCases.Hold
unfolding ActCases.setups ActCases.installations ActCases.lendings ActCases.others ActCases.listings ActCases.cases act first_empty_from zeros
acts_hold =
    record {
      acts = refl;
      lowest = refl;
      of_blank = refl;
      of_mixed = refl;
      of_lowest = refl;
      of_highest = refl;
      of_full = refl;
      from_2 = refl;
      from_last = refl;
      firsts = refl;
    }
