-- PROFILE 4.4 and 4.5: what a return did to the count, and the call that keeps a running total of it.
use Rattle.std.specs.Prelude.{ℕ, ◌+◌, ◌*◌, List, [], ◌∷◌, Bool, ◌&&◌, not, eqb, leb, ltb, ℤ, pos, nat_abs, ◌+ℤ◌, ◌-ℤ◌, if◌then◌else◌}
use Rattle.profile.specs.Bytes.{Bytes}
use Rattle.profile.specs.Sizes.{most_returns, most_change, total_outside}
use Rattle.profile.specs.Slot.{Count, None, Some, reserved, enabled, disabled, Slot}
use Rattle.profile.specs.Table.{slots_of}
use Rattle.profile.specs.Request.{Request, setup, install, retrieve, rek, enable, remove, cancel, list, info}
use Rattle.profile.specs.Agent.{Found, absent, one, find, Call, Outcome, refuse, agent}
use Rattle.profile.specs.History.{Exchange}
use Rattle.profile.specs.Run.{exchange_of}

-- ---- PROFILE 4.4: a lent right that was returned, with the count that was stored and the count that was sent; or no such return
pub data Return : Type 0 where
  no_return : Return
  returned : Count → Count → Return

-- by the record under the handle of an enablement that succeeded: only a disabled one was lent
abbrev pub return_from : Found → Count → Return
return_from absent c = no_return
return_from (one i (reserved n)) c = no_return
return_from (one i (enabled r)) c = no_return
return_from (one i (disabled r)) c = returned r.count c

-- by the slots before a request that succeeded: only kind 5 returns a right
abbrev pub return_by : List Slot → Request → Return
return_by t (setup h n) = no_return
return_by t (install h r) = no_return
return_by t (retrieve h k) = no_return
return_by t (rek h k) = no_return
return_by t (enable h c) = return_from (find h t) c
return_by t (remove h) = no_return
return_by t (cancel h) = no_return
return_by t (list limit q) = no_return
return_by t (info h) = no_return

-- by the request of a call and the status in its reply: a status other than 0 returns nothing, and neither does a call without an exchange
abbrev pub return_in : List Slot → List Exchange → Return
return_in t [] = no_return
return_in t (x ∷ xs) = if eqb x.status 0 then return_by t x.request else no_return

unfoldable pub return_of : Bytes → Call → Return
return_of table c = return_in (slots_of table) (exchange_of table c)

-- the change: the count sent minus the count stored, where both are kept; else 0
abbrev pub change : Return → ℤ
change no_return = pos 0
change (returned None sent) = pos 0
change (returned (Some a) None) = pos 0
change (returned (Some a) (Some b)) = pos b -ℤ pos a

-- one that is counted counts for 1: where both counts are kept, also where they are the same
abbrev pub counted : Return → ℕ
counted no_return = 0
counted (returned None sent) = 0
counted (returned (Some a) None) = 0
counted (returned (Some a) (Some b)) = 1

abbrev pub change_of : Bytes → Call → ℤ
change_of table c = change (return_of table c)

-- ---- PROFILE 4.5: a running total, and how many counted returns are in it
pub record Totals : Type 0 where
  pub total : ℤ
  pub returns : ℕ

abbrev pub totals_with : ℤ → ℕ → Totals
totals_with total returns = record { total = total; returns = returns }

-- there is room for one more return, and the total can be a sum of so many changes
abbrev pub totals_hold : Totals → Bool
totals_hold t = ltb t.returns most_returns && leb (nat_abs t.total) (t.returns * most_change)

-- with one return more: its change is added, and it is counted if it counts
abbrev pub with_return : Return → Totals → Totals
with_return r t = totals_with (t.total +ℤ change r) (t.returns + counted r)

-- what a totalling call leaves: the outcome of the call, the totals, and the change
pub record Totalled : Type 0 where
  pub outcome : Outcome
  pub totals : Totals
  pub change : ℤ

-- PROFILE 4.5: 108 before all other numbers, with everything as it was, the change included; else the call, and what its return did
unfoldable pub totalling : Bytes → Call → Totals → ℤ → Totalled
totalling table c t was =
    if not (totals_hold t) then record { outcome = refuse total_outside table c; totals = t; change = was }
    else record { outcome = agent table c; totals = with_return (return_of table c) t; change = change_of table c }
