-- Every answer of the agent changes one slot at most, so that a tally is brought up to date by it. Assumes nothing.
use Prim.Native.Nat.{ℕ, ◌≤◌}
use mathlib.Core.Path.{◌≡◌, refl, sym}
use mathlib.Core.Logic.{◌⊎◌, inl, inr}
use mathlib.Core.List.{List}
use mathlib.Core.Option.{some}
use mathlib.Core.Bool.{true}
use native.Mathlib.Omega.{arith}
use lib.ListN.{length, get_elem?}
use Rattle.profile.specs.Bytes.{Bytes}
use Rattle.profile.specs.Slot.{Right, Entry, reserved, enabled, disabled, Slot, empty, taken, TableFits}
use Rattle.profile.specs.Table.{slots_of, whole_slots, well_table}
use Rattle.profile.specs.Tally.{tally_of}
use Rattle.profile.specs.Request.{Request, setup, install, retrieve, rek, enable, remove, cancel, list, info, RequestFits}
use Rattle.profile.specs.Agent.{Given, Answer, deny, done, one, find, act, table_after}
use Rattle.profile.proofs.Lookup.{EmptyAt, here, there, Free}
use Rattle.profile.proofs.Laws.{found_is}
use Rattle.profile.proofs.Tables.{slots_table}
use Rattle.profile.proofs.WellFormed.{table_fits, few_slots}
use Rattle.profile.proofs.Fitting.{fitting}
use Rattle.profile.proofs.Steps.{Turns, Stays, Returns, Does, Answers, acts}
use Rattle.slots.specs.Places.{place_number}
use Rattle.tallies.specs.Changes.{place_in, slots_then, change_by, updated, Updates}
use Rattle.tallies.proofs.Changing.{OneSlot, none_moved, one_updated, one_updates}

-- ---- the one slot
pub empty_there : {t : List Slot} {i : ℕ} → EmptyAt t i → get_elem? t i ≡ some empty
empty_there here = refl
empty_there (there z) = empty_there z

found_there : (h : Bytes) (t : List Slot) (i : ℕ) (e : Entry) → find h t ≡ one i e → get_elem? t i ≡ some (taken h e)
found_there h t i e p = rw p at (found_is h t)

-- no slot has another place, or one has
abbrev Moves : List Slot → List Slot → Type 0
Moves t u = (u ≡ t) ⊎ OneSlot t u

turned : {t u : List Slot} {h : Bytes} {e : Entry} {s : Slot} → Turns t h e s u → (place_number (place_in (taken h e)) ≡ place_number (place_in s) → ⊥) → Moves t u
turned {t} {u} {h} {e} {s} d n =
    inr (record { at = d.at; before = taken h e; after = s; stands = found_there h t d.at e d.found; becomes = d.after; elsewhere = n })

module _ (free : ℕ) (t : List Slot) (z : Free free t) where
  does_one : (q : Request) (g : Given) (u : List Slot) → Does free t q g u → Moves t u
  does_one (setup h n) g u d =
      inr (record { at = free; before = empty; after = taken h (reserved n); stands = empty_there (z d.room); becomes = d.after; elsewhere = λ e. omega (arith, e) })
  does_one (install h r) g u d = turned d.turns (λ e. omega (arith, e))
  does_one (retrieve h k) g u d = turned d.turns (λ e. omega (arith, e))
  does_one (rek h k) g u d = turned d.turns (λ e. omega (arith, e))
  does_one (enable h c) g u d = go d.did
    where
      go : ((r : Right) × Stays t h (enabled r) u) ⊎ Returns t h c u → Moves t u
      go (inl x) = inl x.1.after
      go (inr x) = turned x.turns (λ e. omega (arith, e))
  does_one (remove h) g u d = go d.entry d.turns
    where
      go : (e : Entry) → Turns t h e empty u → Moves t u
      go (reserved n) d = turned d (λ e. omega (arith, e))
      go (enabled r) d = turned d (λ e. omega (arith, e))
      go (disabled r) d = turned d (λ e. omega (arith, e))
  does_one (cancel h) g u d = turned d.turns (λ e. omega (arith, e))
  does_one (list limit q) g u d = inl d.after
  does_one (info h) g u d = inl d.stays.after

-- ---- the tally after it
-- brought up to date, as it must be and as it may be
pub record Follows (t : List Slot) (a : Answer) : Type 0 where
  pub updates : Updates (tally_of t) (change_by t a)
  pub is_tally : updated (tally_of t) (change_by t a) ≡ tally_of (slots_then t a)

follows_same : (t : List Slot) (a : Answer) → slots_then t a ≡ t → Follows t a
follows_same t a e = record { updates = rw (e, none_moved t) tt; is_tally = rw (e, none_moved t) refl }

module _ (table : Bytes) (whole : whole_slots table ≡ true) (well : well_table table ≡ true) (free : ℕ) (z : Free free (slots_of table)) (q : Request) (f : RequestFits q) where
  abbrev t : List Slot
  t = slots_of table

  done_fits : (g : Given) (u : List Slot) → Does free t q g u → TableFits u × (length u ≤ 15)
  done_fits g u d =
      let x = fitting t (table_fits table whole well) free q f g u d in
      (x.0, rw x.1 (few_slots table whole well))

  follows_by : (a : Answer) → Answers free t q a → Follows t a
  follows_by (deny r) d = follows_same t (deny r) refl
  follows_by (done g u) d = go (does_one free t z q g u d)
    where
      go : Moves t u → Follows t (done g u)
      go (inl e) = follows_same t (done g u) e
      go (inr o) =
          let x = done_fits g u d in
          record { updates = one_updates t u o x.0 x.1; is_tally = one_updated t u o }

  pub follows : Follows t (act free t q)
  follows = follows_by (act free t q) (acts free t q)

  -- these are the slots of the table's bytes afterwards
  then_by : (a : Answer) → Answers free t q a → slots_then t a ≡ slots_of (table_after table a)
  then_by (deny r) d = refl
  then_by (done g u) d = sym (slots_table u (done_fits g u d).0)

  pub then_slots : slots_then t (act free t q) ≡ slots_of (table_after table (act free t q))
  then_slots = then_by (act free t q) (acts free t q)
