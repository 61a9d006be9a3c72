-- What a request did to the slots, as far as a tally counts it, and a tally brought up to date by it.
use Rattle.std.specs.Prelude.{ℕ, List, [], ◌∷◌, length, eqb, if◌then◌else◌}
use Rattle.profile.specs.Slot.{Right, reserved, enabled, disabled, Slot, empty, taken}
use Rattle.profile.specs.Tally.{Tally, plus}
use Rattle.profile.specs.Agent.{Answer, deny, done}
use Rattle.slots.specs.declared.place.Place.{Place}
use Rattle.slots.specs.declared.place.Place.TheVariants.{Empty, Reserved, Enabled, Disabled}
use Rattle.slots.specs.Places.{place_number}
use Rattle.tallies.specs.declared.update.Change.{Change}
use Rattle.tallies.specs.declared.update.Change.TheVariants.{Same, Moved, Returned}
use Rattle.tallies.specs.Shares.{share, less, Within, Small}

-- ---- the place of a slot, and its length
abbrev pub place_in : Slot → Place
place_in empty = Empty
place_in (taken h (reserved n)) = Reserved
place_in (taken h (enabled r)) = Enabled
place_in (taken h (disabled r)) = Disabled

abbrev pub length_in : Slot → ℕ
length_in empty = 0
length_in (taken h (reserved n)) = n
length_in (taken h (enabled r)) = length r.payload
length_in (taken h (disabled r)) = length r.payload

-- ---- a slot that comes to another place: place and length before and after; of a disabled right that comes to be enabled, length and count before and after
abbrev pub moved_lent : Right → Slot → Change
moved_lent r empty = Moved Disabled (length r.payload) Empty 0
moved_lent r (taken h (reserved n)) = Moved Disabled (length r.payload) Reserved n
moved_lent r (taken h (enabled q)) = Returned (length r.payload) r.count (length q.payload) q.count
moved_lent r (taken h (disabled q)) = Moved Disabled (length r.payload) Disabled (length q.payload)

abbrev pub moved : Slot → Slot → Change
moved empty x = Moved Empty 0 (place_in x) (length_in x)
moved (taken h (reserved n)) x = Moved Reserved n (place_in x) (length_in x)
moved (taken h (enabled r)) x = Moved Enabled (length r.payload) (place_in x) (length_in x)
moved (taken h (disabled r)) x = moved_lent r x

-- from some slots to others: the first slot whose place is another
unfoldable pub change_in : List Slot → List Slot → Change
change_in [] u = Same
change_in (s ∷ t) [] = Same
change_in (s ∷ t) (x ∷ u) =
    if eqb (place_number (place_in s)) (place_number (place_in x)) then change_in t u
    else moved s x

-- the slots after an answer, and what it changed: a request changes one slot at most, and never without its place
abbrev pub slots_then : List Slot → Answer → List Slot
slots_then t (deny r) = t
slots_then t (done g u) = u

abbrev pub change_by : List Slot → Answer → Change
change_by t a = change_in t (slots_then t a)

-- ---- the tally loses what the slot counted for, and gains what it counts for then
abbrev pub updated : Tally → Change → Tally
updated t Same = t
updated t (Moved p m q n) = plus (less t (share p m)) (share q n)
updated t (Returned m a n b) = plus (less t (share Disabled m)) (share Enabled n)

-- the slot is counted in the tally, and the new numbers have 16 bits
abbrev pub Updates : Tally → Change → Type 0
Updates t Same = Unit {0}
Updates t (Moved p m q n) = Within (share p m) t × Small (updated t (Moved p m q n))
Updates t (Returned m a n b) = Within (share Disabled m) t × Small (updated t (Returned m a n b))
