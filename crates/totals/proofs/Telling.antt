-- What a call did to the slots says what was returned: the change from the slots before to those after, by the profile's words. Assumes nothing.
use Prim.Native.Nat.{ℕ}
use mathlib.Core.Path.{◌≡◌, refl}
use mathlib.Core.Logic.{◌⊎◌, inl, inr}
use mathlib.Core.List.{List, [], ◌∷◌}
use mathlib.Core.Option.{some}
use mathlib.Core.Bool.{true, false}
use native.Mathlib.Omega.{arith}
use lib.Dec.{eqb}
use lib.ListN.{get_elem?}
use Rattle.profile.specs.Bytes.{Bytes}
use Rattle.profile.specs.Slot.{Right, Entry, reserved, enabled, disabled, Slot, empty, taken}
use Rattle.profile.specs.Table.{slots_of, whole_slots, well_table}
use Rattle.profile.specs.Frame.{kind_number}
use Rattle.profile.specs.Request.{Request, setup, install, retrieve, rek, enable, remove, cancel, list, info, Read, asks, refused, no_frame, read_request}
use Rattle.profile.specs.Agent.{Given, Answer, deny, done, find, act, status, Call, Outcome, refuse, replied, obey, on_bytes, agent}
use Rattle.profile.specs.Run.{exchange}
use Rattle.profile.specs.Total.{Return, no_return, return_from, return_by, return_in, return_of}
use Rattle.profile.proofs.Lookup.{Free}
use Rattle.profile.proofs.Laws.{found_is}
use Rattle.profile.proofs.Tables.{slots_table}
use Rattle.profile.proofs.WellFormed.{table_fits}
use Rattle.profile.proofs.Fitting.{fitting}
use Rattle.profile.proofs.Frames.{coded, Reads, ReadAs, reads}
use Rattle.profile.proofs.Requests.{read_fits}
use Rattle.profile.proofs.Counts.{status_over}
use Rattle.profile.proofs.Steps.{Turns, Stays, Returns, Does, Answers, acts}
use Rattle.profile.proofs.Numbers.{by_agent}
use Rattle.slots.specs.Places.{place_number}
use Rattle.tallies.specs.Changes.{place_in, moved, change_in}
use Rattle.tallies.proofs.Changing.{none_moved, one_moved}
use Rattle.tallies.proofs.Answering.{empty_there}
use Rattle.totals.specs.Returns.{return_said}

-- ---- on slots: what is said of those before and those after
abbrev said : List Slot → List Slot → Return
said t u = return_said (change_in t u)

-- none changed
said_none : (t u : List Slot) → u ≡ t → said t u ≡ no_return
said_none t u e = rw (e, none_moved t) refl

-- a record that is found, and comes to another place
said_turned : {t u : List Slot} {h : Bytes} {e : Entry} {s : Slot} → Turns t h e s u → (place_number (place_in (taken h e)) ≡ place_number (place_in s) → ⊥)
    → said t u ≡ return_said (moved (taken h e) s)
said_turned {t} {u} {h} {e} {s} d n = rw (d.after, one_moved t d.at (taken h e) s there n) refl
  where
    there : get_elem? t d.at ≡ some (taken h e)
    there = rw d.found at (found_is h t)

module _ (free : ℕ) (t : List Slot) (z : Free free t) where
  pub does_say : (q : Request) (g : Given) (u : List Slot) → Does free t q g u → said t u ≡ return_by t q
  does_say (setup h n) g u d = rw (d.after, one_moved t free empty (taken h (reserved n)) (empty_there (z d.room)) (λ e. omega (arith, e))) refl
  does_say (install h r) g u d = said_turned d.turns (λ e. omega (arith, e))
  does_say (retrieve h k) g u d = said_turned d.turns (λ e. omega (arith, e))
  does_say (rek h k) g u d = said_turned d.turns (λ e. omega (arith, e))
  does_say (enable h c) g u d = go d.did
    where
      go : ((r : Right) × Stays t h (enabled r) u) ⊎ Returns t h c u → said t u ≡ return_from (find h t) c
      go (inl x) = rw x.1.found (said_none t u x.1.after)
      go (inr x) = rw x.turns.found (said_turned x.turns (λ e. omega (arith, e)))
  does_say (remove h) g u d = go d.entry d.turns
    where
      go : (e : Entry) → Turns t h e empty u → said t u ≡ no_return
      go (reserved n) d = said_turned d (λ e. omega (arith, e))
      go (enabled r) d = said_turned d (λ e. omega (arith, e))
      go (disabled r) d = said_turned d (λ e. omega (arith, e))
  does_say (cancel h) g u d = said_turned d.turns (λ e. omega (arith, e))
  does_say (list limit q) g u d = said_none t u d.after
  does_say (info h) g u d = said_none t u d.stays.after

-- ---- on bytes: of a call, by its request and the status in its reply
module _ (table : Bytes) (c : Call) where
  abbrev t : List Slot
  t = slots_of table

  -- of an outcome o
  abbrev Says : Read → Outcome → Type 0
  Says r o = said t (slots_of o.table) ≡ return_in t (exchange r o)

  given_back : (n : ℕ) → eqb n 0 ≡ false → (r : Read) → Says r (refuse n table c)
  given_back n e (asks q) = rw e (said_none t t refl)
  given_back n e (refused r) = said_none t t refl
  given_back n e no_frame = said_none t t refl

  module _ (whole : whole_slots table ≡ true) (well : well_table table ≡ true) (free : ℕ) (z : Free free t) where
    answer_says : (q : Request) → Reads c.request q → (a : Answer) → Answers free t q a → (s : ℕ) → s ≡ status a
        → said t (slots_of (replied (kind_number c.request) a table c.buffer).table) ≡ return_in t (record { request = q; status = s } ∷ [])
    answer_says q r (deny x) d s e = rw (e, (coded x).fails) (said_none t t refl)
    answer_says q r (done g u) d s e =
        let f = fitting t (table_fits table whole well) free q (read_fits c.request q r) g u d in
        rw (e, slots_table u f.0) (does_say free t z q g u d)

    read_says : (r : Read) → ReadAs c.request r → Says r (on_bytes (kind_number c.request) (obey r free t) table c)
    read_says (asks q) d = answer_says q d (act free t q) (acts free t q) _ (status_over (kind_number c.request) (act free t q) c.buffer)
    read_says (refused r) d = said_none t t refl
    read_says no_frame d = said_none t t refl

  pub tells_return : return_said (change_in (slots_of table) (slots_of (agent table c).table)) ≡ return_of table c
  unfolding return_of
  tells_return =
      by_agent table c (λ (o : Outcome). Says (read_request c.request) o)
      (λ n e. given_back n e (read_request c.request))
      (λ whole well _ free z. read_says whole well free z (read_request c.request) (reads c.request))
