-- What is decided of a request on the record under its handle, before anything is changed.
use Rattle.std.specs.Prelude.{◌≡◌, Bool, true, false, Option, Some, None, Result, Ok, Err, if◌then◌else◌}
use Rattle.codes.specs.declared.refusal.Refusal.{Refusal}
use Rattle.codes.specs.declared.refusal.Refusal.TheVariants.{HandleNotFound, UnexpectedRequest, DuplicateHandle}
use Rattle.slots.specs.declared.place.Place.{Place}
use Rattle.slots.specs.declared.place.Place.TheVariants.{Empty, Reserved, Enabled, Disabled}
use Rattle.tables.specs.declared.lookup.Record.{Record}

-- a test of places, by what it may return at each, says whether each is one of these
abbrev pub Takes : (Place → Bool → Type 0) → (Place → Bool) → Type 0
Takes test places = (p : Place) (b : Bool) → test p b → b ≡ places p

-- PROFILE 4.2: 4 by the look-up; 6 by the place
unfoldable pub decided : (Place → Bool) → Option Record → Result Record Refusal
decided places None = Err HandleNotFound
decided places (Some r) = if places r.place then Ok r else Err UnexpectedRequest

-- the places that the kinds take: 2 and 7; 3, 4 and 9; 5 and 6. No record is empty
abbrev pub awaited : Place → Bool
awaited Empty = false
awaited Reserved = true
awaited Enabled = false
awaited Disabled = false

abbrev pub lendable : Place → Bool
lendable Empty = false
lendable Reserved = false
lendable Enabled = true
lendable Disabled = false

abbrev pub installed : Place → Bool
installed Empty = false
installed Reserved = false
installed Enabled = true
installed Disabled = true

-- and of these the one that kind 5 changes
abbrev pub lent : Place → Bool
lent Empty = false
lent Reserved = false
lent Enabled = false
lent Disabled = true

-- what was decided before, unless a test of the record refuses it too
unfoldable pub unless : (Record → Bool) → Refusal → Result Record Refusal → Result Record Refusal
unless test x (Err e) = Err e
unless test x (Ok r) = if test r then Err x else Ok r

-- kinds 3 and 4: unless the new handle is in use, be it in the record's own slot
abbrev pub unless_used : Bool → Result Record Refusal → Result Record Refusal
unless_used used d = unless (λ r. used) DuplicateHandle d
