-- The agent's answer to kinds 1 and 2, outcome by outcome. Assumes nothing.
use Prim.Native.Nat.{ℕ, ◌≤◌, ◌<◌}
use mathlib.Core.Path.{◌≡◌, refl, sym, ap, ◌∙◌}
use mathlib.Core.Option.{some}
use native.Mathlib.Omega.{arith}
use mathlib.Core.Bool.{true, false, true≢false}
use borrow.Author.Tests.{eq-eqb, ne_eqb, le-leb, lt-leb, lt-ltb, le-ltb}
use lib.ListN.{length, set, get_elem?}
use Rattle.std.specs.Prelude.{Option, Some, None, Result, Ok, Err}
use Rattle.std.specs.Option.{ok_or}
use Rattle.profile.specs.Bytes.{Bytes, Bytes256}
use Rattle.profile.specs.Sizes.{most_payload}
use Rattle.profile.specs.Slot.{Right, Entry, reserved, enabled, empty, taken, in_use}
use Rattle.profile.specs.Table.{place_of, length_of, slot_count, slots_of}
use Rattle.profile.specs.Frame.{parameter, duplicate, no_space}
use Rattle.profile.specs.Request.{setup, install}
use Rattle.profile.specs.Agent.{Answer, deny, nothing, done, find, install_at, act, first_empty_from}
use Rattle.profile.proofs.Lookup.{EmptyAt}
use Rattle.profile.proofs.FirstEmpty.{first_free}
use Rattle.codes.specs.declared.refusal.Refusal.{Refusal}
use Rattle.codes.specs.declared.refusal.Refusal.TheVariants.{NotEnoughSpace}
use Rattle.codes.specs.Codes.{refusal_meant}
use Rattle.tables.specs.declared.lookup.Record.{Record}
use Rattle.slots.specs.declared.place.Place.TheVariants.{Empty, Reserved, Enabled}
use Rattle.slots.specs.Places.{place_number}
use Rattle.tables.specs.LookUp.{found_at}
use Rattle.tables.proofs.SlotParts.{length_slots}
use Rattle.changes.specs.Change.{slot_at, Has}
use Rattle.changes.proofs.Standing.{free_place}
use Rattle.tallies.specs.declared.update.Change.TheVariants.{Moved}
use Rattle.tallies.specs.Changes.{change_in}
use Rattle.tallies.proofs.Changing.{one_moved}
use Rattle.tallies.proofs.Answering.{empty_there}
use Rattle.decisions.specs.Decisions.{awaited, decided, unless}
use Rattle.decisions.specs.Serving.{Ready, answer_at, answer_to}
use Rattle.decisions.proofs.Deciding.{expects, refuses, unless_refused, unless_decided, chosen_reserved, Held, moved_from}
use Rattle.setups.specs.Sending.{longer_than_room}
use Rattle.room.proofs.Searching.{IsFirst}
use Rattle.setups.specs.Reserving.{Reserves, SetsUp}

-- ---- 2, by what is decided of its record
module _ (T B h : Bytes) (bytes : Bytes256 T) (r : Ready T B) (size : ℕ) where
  abbrev before : Result Record Refusal
  before = decided awaited (found_at (find h (slots_of T)))

  module _ (m : Result Record Refusal) (e : m ≡ unless (longer_than_room T size) NotEnoughSpace before) where
    module _ (o : Record) (q : m ≡ Ok o) where
      fits : (longer_than_room T size o ≡ false) × (before ≡ Ok o)
      fits = unless_decided (longer_than_room T size) NotEnoughSpace before o (sym e ∙ q)

      -- the record is reserved
      pub to_fill : Held T h o.at Reserved
      to_fill = chosen_reserved T B h bytes r o fits.1

    module _ (x : Right) (sized : length x.payload ≡ size) where
      pub install_refused : (y : Refusal) → m ≡ Err y → answer_to T (install h x) ≡ deny (refusal_meant y)
      unfolding act
      install_refused y q =
          unless_refused (longer_than_room T size) NotEnoughSpace before y (sym e ∙ q)
          (refuses h (slots_of T) awaited at (expects awaited at (λ q. absurd (true≢false q)) (λ _ i r. refl) (λ _ i r. refl)) y)
          (λ o d long full. rw (← full, (chosen_reserved T B h bytes r o d).found, sized, long) refl)
        where
          at : ℕ → Entry → Answer
          at = install_at (slots_of T) h x

      module _ (o : Record) (q : m ≡ Ok o) where
        pub installs : answer_to T (install h x) ≡ done nothing (set (slots_of T) o.at (taken h (enabled x)))
        unfolding act
        installs = rw ((to_fill o q).found, sized, (fits o q).0)

        -- and holds the right then
        pub install_moves : (room : ℕ) → room ≡ length_of (slot_at T o.at) → Moved Reserved room Enabled size ≡ change_in (slots_of T) (set (slots_of T) o.at (taken h (enabled x)))
        install_moves room f = rw (f, ← sized) (moved_from Reserved (to_fill o q) (taken h (enabled x)) (λ q _. omega (arith, ap place_number q)) (λ q. omega (arith, q)))

-- ---- 1, by its tests, whichever slot is the free one
module _ (T h : Bytes) (n free : ℕ) where
  abbrev answer : Answer
  answer = answer_at free T (setup h n)

  pub no_length : n ≡ 0 → answer ≡ deny parameter
  unfolding act
  no_length z = rw (eq-eqb n 0 z)

  module _ (some : n ≡ 0 → ⊥) where
    pub handle_used : in_use h (slots_of T) ≡ true → answer ≡ deny duplicate
    unfolding act
    handle_used y = rw (ne_eqb n 0 some, y)

    module _ (fresh : in_use h (slots_of T) ≡ false) where
      pub too_long : most_payload < n → answer ≡ deny no_space
      unfolding act
      too_long long = rw (ne_eqb n 0 some, fresh, lt-ltb _ _ long)

      module _ (fits : n ≤ most_payload) where
        pub no_room : free ≡ slot_count T → answer ≡ deny no_space
        unfolding act
        no_room full = rw (ne_eqb n 0 some, fresh, le-ltb _ _ fits, length_slots T, full, le-leb (slot_count T) (slot_count T) (omega arith))

        pub sets_up : free < slot_count T → answer ≡ done nothing (set (slots_of T) free (taken h (reserved n)))
        unfolding act
        sets_up inside = rw (ne_eqb n 0 some, fresh, le-ltb _ _ fits, length_slots T, lt-leb _ _ inside)

-- by what the search for an empty slot found: none, or one of the table's, which the agent reserves
module _ (T h : Bytes) (start n : ℕ) (some : n ≡ 0 → ⊥) (fresh : in_use h (slots_of T) ≡ false) (fits : n ≤ most_payload) where
  pub reserves_first : (o : Option ℕ) → IsFirst start (slots_of T) (slot_count T) o → SetsUp start T h n (ok_or o NotEnoughSpace)
  reserves_first None full = no_room T h n (first_empty_from start (slots_of T)) some fresh fits full
  reserves_first (Some i) found = record {
    first = found.0;
    inside = found.1;
    answer = rw found.0 (sets_up T h n (first_empty_from start (slots_of T)) some fresh fits (rw (← found.0) found.1));
  }

module _ (T h : Bytes) (start : ℕ) (inside : start < slot_count T) (n i : ℕ) (w : Reserves start T h n i) where
  free : EmptyAt (slots_of T) (first_empty_from start (slots_of T))
  free = first_free start (slots_of T) (rw (length_slots T) inside) (rw (length_slots T, ← w.first) w.inside)

  pub free_slot : (B : Bytes) → Ready T B → Has T i × (place_of (slot_at T i) ≡ 0)
  free_slot B r = (
    record { whole = r.whole; well = r.well; inside = w.inside },
    rw w.first (free_place T r.whole r.well (first_empty_from start (slots_of T)) free),
  )

  -- it was empty, and is reserved then
  pub setup_moves : Moved Empty 0 Reserved n ≡ change_in (slots_of T) (set (slots_of T) i (taken h (reserved n)))
  setup_moves = sym (one_moved (slots_of T) i empty (taken h (reserved n)) there (λ q. omega (arith, q)))
    where
      there : get_elem? (slots_of T) i ≡ some empty
      there = rw w.first (empty_there free)
