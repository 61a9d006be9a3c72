-- PROFILE 8.7: totals told once more, by requests, statuses and a ledger alone, and along a sequence of totalling calls.
use Rattle.std.specs.Prelude.{ℕ, ◌+◌, ◌*◌, ◌≤◌, ◌≡◌, ◌↔◌, List, [], ◌∷◌, ◌++◌, map, eqb, ℤ, pos, nat_abs, ◌+ℤ◌, if◌then◌else◌}
use Rattle.profile.specs.Bytes.{Bytes, Bytes256, same, joined}
use Rattle.profile.specs.Sizes.{most_returns, most_change}
use Rattle.profile.specs.Slot.{Count}
use Rattle.profile.specs.Table.{slots_of}
use Rattle.profile.specs.Request.{Request, setup, install, retrieve, rek, enable, remove, cancel, list, info}
use Rattle.profile.specs.Agent.{Call}
use Rattle.profile.specs.History.{Owned, for_use, lent, gone, Ledger, Exchange, told}
use Rattle.profile.specs.Run.{exchanges, table_then, ledger_of}
use Rattle.profile.specs.Total.{Return, no_return, returned, change, counted, Totals, totals_with, totals_hold, Totalled, totalling}

-- ---- the bounds: at most 30,000 returns, and a total of at most 65,535 for each of them, above or below 0
pub record Within (t : Totals) : Type 0 where
  pub few : t.returns ≤ most_returns
  pub bound : nat_abs t.total ≤ t.returns * most_change

-- ---- returns told without a table
-- the count of a right that is lent under the handle h
abbrev pub lent_count : Bytes → Owned → List Count
lent_count h (for_use k r) = []
lent_count h (lent k r) = if same h k then r.count ∷ [] else []
lent_count h (gone r) = []

-- such a right is returned with the count that is sent; where there is none, nothing is returned
abbrev pub return_of_lent : List Count → Count → Return
return_of_lent [] sent = no_return
return_of_lent (stored ∷ more) sent = returned stored sent

-- what a success tells, by the ledger before it
abbrev pub return_told : Ledger → Request → Return
return_told l (setup h n) = no_return
return_told l (install h r) = no_return
return_told l (retrieve h k) = no_return
return_told l (rek h k) = no_return
return_told l (enable h c) = return_of_lent (joined (map (lent_count h) l.rights)) c
return_told l (remove h) = no_return
return_told l (cancel h) = no_return
return_told l (list limit q) = no_return
return_told l (info h) = no_return

-- of some exchanges, one after another, of which those with a status other than 0 return nothing
abbrev pub returns_told : Ledger → List Exchange → List Return
returns_told l [] = []
returns_told l (x ∷ xs) = (if eqb x.status 0 then return_told l x.request else no_return) ∷ returns_told (told l x) xs

-- the sum of their changes, and how many of them are counted
abbrev pub changes_of : List Return → ℤ
changes_of [] = pos 0
changes_of (r ∷ rs) = change r +ℤ changes_of rs

abbrev pub counted_in : List Return → ℕ
counted_in [] = 0
counted_in (r ∷ rs) = counted r + counted_in rs

-- ---- a sequence of totalling calls on one table, each with the totals that the one before it left; what stands in the memory for the change makes no difference
abbrev pub step : Bytes → Totals → Call → Totalled
step table t c = totalling table c t (pos 0)

-- the totals after them, and the table
abbrev pub totals_then : Bytes → Totals → List Call → Totals
totals_then table t [] = t
totals_then table t (c ∷ cs) = totals_then (step table t c).outcome.table (step table t c).totals cs

abbrev pub table_totalled : Bytes → Totals → List Call → Bytes
table_totalled table t [] = table
table_totalled table t (c ∷ cs) = table_totalled (step table t c).outcome.table (step table t c).totals cs

-- the calls among them that were made: all but those that gave 108
abbrev pub calls_made : Bytes → Totals → List Call → List Call
calls_made table t [] = []
calls_made table t (c ∷ cs) = (if totals_hold t then c ∷ [] else []) ++ calls_made (step table t c).outcome.table (step table t c).totals cs

-- the frames are bytes
abbrev pub FrameBytes : List Call → Type 0
FrameBytes [] = Unit {0}
FrameBytes (c ∷ cs) = Bytes256 c.request × FrameBytes cs

-- ---- after the totalling calls cs on a table, from 0 and 0, where the ledger l told of the table before them
abbrev pub no_totals : Totals
no_totals = totals_with (pos 0) 0

pub record TotalsTold (l : Ledger) (table : Bytes) (cs : List Call) : Type 0 where
  -- the calls that were made left the table
  pub same_table : table_totalled table no_totals cs ≡ table_then table (calls_made table no_totals cs)
  -- the total is the sum of the changes that the ledger, the requests and the statuses tell, and returns is the number of counted returns that they tell
  pub total : (totals_then table no_totals cs).total ≡ changes_of (returns_told l (exchanges table (calls_made table no_totals cs)))
  pub returns : (totals_then table no_totals cs).returns ≡ counted_in (returns_told l (exchanges table (calls_made table no_totals cs)))
  pub within : Within (totals_then table no_totals cs)
  -- a further call gives 108 exactly where 30,000 returns have been counted
  pub full : (c : Call) (was : ℤ) → ((totalling (table_totalled table no_totals cs) c (totals_then table no_totals cs) was).outcome.number ≡ 108)
      ↔ (counted_in (returns_told l (exchanges table (calls_made table no_totals cs))) ≡ 30000)

-- from any table, with the ledger read off it
abbrev pub TotalsFrom : Bytes → List Call → Type 0
TotalsFrom table cs = TotalsTold (ledger_of (slots_of table)) table cs
