-- What an answer of `look_up` says: what is found under the handle, and the record's slot. Assumes nothing.
use Prim.Native.Nat.{ℕ, zero, suc, ◌*◌, ◌≤◌, ◌<◌}
use mathlib.Core.Path.{◌≡◌, refl, sym, ap, ◌∙◌}
use mathlib.Core.List.{List, []}
use mathlib.Core.Bool.{true}
use native.Mathlib.Omega.{arith}
use lib.ListN.{length}
use Rattle.std.specs.Prelude.{Option, Some, None}
use Rattle.profile.specs.Bytes.{Bytes, part, word}
use Rattle.profile.specs.Slot.{Entry, reserved, enabled, disabled, Slot, taken}
use Rattle.profile.specs.Table.{place_of, hash_count_of, right_of, unpack, well_slot, well_table, slot_count, slots_of}
use Rattle.profile.specs.Agent.{Found, absent, one, find}
use Rattle.slots.specs.declared.place.Place.{Place}
use Rattle.slots.specs.declared.place.Place.TheVariants.{Empty, Reserved, Enabled, Disabled}
use Rattle.tables.specs.declared.lookup.Record.{Record}
use Rattle.slots.specs.Places.{place_number, place_of_entry}
use Rattle.tables.specs.LookUp.{found_at}
use Rattle.slots.proofs.Unpacking.{empty_taken, same_entry, unpack_empty, unpack_reserved, unpack_enabled, unpack_disabled}
use Rattle.tables.proofs.SlotParts.{length_slots, length_slot, unpacked_at}
use Rattle.slots.proofs.WellSlots.{few_hashes, length_1_to_4096}
use Rattle.tables.proofs.WellTables.{slot_well}
use Rattle.tables.proofs.LookingUp.{found_stands}

-- ---- on any slots: the record that an answer is about
pub record Standing (h : Bytes) (u : List Slot) (i : ℕ) (p : Place) : Type 0 where
  pub entry : Entry
  pub placed : place_of_entry entry ≡ p
  pub found : find h u ≡ one i entry

abbrev Means : Bytes → List Slot → Option Record → Type 0
Means h u None = find h u ≡ absent
Means h u (Some r) = Standing h u r.at r.place

module _ (h : Bytes) (u : List Slot) where
  answer_means : Means h u (found_at (find h u))
  unfolding found_at
  answer_means = go (find h u) refl
    where
      go : (r : Found) → find h u ≡ r → Means h u (found_at r)
      go absent e = e
      go (one i x) e = record { entry = x; placed = refl; found = e }

  pub absent_found : found_at (find h u) ≡ None → find h u ≡ absent
  absent_found e = rw e at answer_means

  pub at_stands : (r : Record) → found_at (find h u) ≡ Some r → Standing h u r.at r.place
  at_stands r e = rw e at answer_means

-- ---- on a table's bytes: the record found is that of slot i
-- what stands in a slot of that place; no answer has the place empty
abbrev pub entry_of : Place → Bytes → Entry
entry_of Empty s = reserved (word 29 s)
entry_of Reserved s = reserved (word 29 s)
entry_of Enabled s = enabled (right_of s)
entry_of Disabled s = disabled (right_of s)

entry_is : (s h : Bytes) (e : Entry) → unpack s ≡ taken h e → e ≡ entry_of (place_of_entry e) s
entry_is s h e u = go (place_of s) refl
  where
    known : (x : Entry) → unpack s ≡ taken (part 1 10 s) x → x ≡ entry_of (place_of_entry x) s → e ≡ entry_of (place_of_entry e) s
    known x p q = rw (same_entry (sym u ∙ p)) q

    go : (n : ℕ) → place_of s ≡ n → e ≡ entry_of (place_of_entry e) s
    go zero at = absurd (empty_taken h e (sym (unpack_empty s at) ∙ u))
    go (suc zero) at = known (reserved (word 29 s)) (unpack_reserved s at) refl
    go (suc (suc zero)) at = known (enabled (right_of s)) (unpack_enabled s at) refl
    go (suc (suc (suc n))) at = known (disabled (right_of s)) (unpack_disabled s n at) refl

pub record RecordAt (t h : Bytes) (i : ℕ) (e : Entry) : Type 0 where
  pub below : i < slot_count t
  pub unpacked : unpack (part (4288 * i) 4288 t) ≡ taken h e
  pub found : find h (slots_of t) ≡ one i e

-- the bytes of a record's slot: how long they are, and what its fields are bounded by
pub record RecordFits (s : Bytes) : Type 0 where
  pub sized : length s ≡ 4288
  pub well : well_slot s ≡ true
  pub few : hash_count_of s ≤ 8
  pub long : (1 ≤ word 29 s) × (word 29 s ≤ 4096)

module _ (t h : Bytes) (i : ℕ) where
  pub record_at : (p : Place) → found_at (find h (slots_of t)) ≡ Some (record { at = i; place = p }) → RecordAt t h i (entry_of p (part (4288 * i) 4288 t))
  record_at p l = rw (← known) (record { below = below; unpacked = unpacked; found = s.found })
    where
      s : Standing h (slots_of t) i p
      s = at_stands h (slots_of t) (record { at = i; place = p }) l

      below : i < slot_count t
      below = rw (length_slots t) at (found_stands h (slots_of t) i s.entry (unpack []) s.found).below

      unpacked : unpack (part (4288 * i) 4288 t) ≡ taken h s.entry
      unpacked = sym (unpacked_at t i below) ∙ (found_stands h (slots_of t) i s.entry (unpack []) s.found).there

      known : s.entry ≡ entry_of p (part (4288 * i) 4288 t)
      known = entry_is (part (4288 * i) 4288 t) h s.entry unpacked ∙ ap (λ (q : Place). entry_of q (part (4288 * i) 4288 t)) s.placed

  -- in a well-formed table its slot is well formed, with a length of 1 to 4,096
  pub record_fits : (e : Entry) → well_table t ≡ true → RecordAt t h i e → RecordFits (part (4288 * i) 4288 t)
  record_fits e w r = record { sized = length_slot t i r.below; well = well; few = few_hashes (part (4288 * i) 4288 t) well; long = length_1_to_4096 (part (4288 * i) 4288 t) well taken_slot }
    where
      well : well_slot (part (4288 * i) 4288 t) ≡ true
      well = slot_well t i w r.below

      taken_slot : place_of (part (4288 * i) 4288 t) ≡ 0 → ⊥
      taken_slot z = empty_taken h e (sym (unpack_empty (part (4288 * i) 4288 t) z) ∙ r.unpacked)

  -- every slot but an empty one has a handle
  pub none_empty : found_at (find h (slots_of t)) ≡ Some (record { at = i; place = Empty }) → ⊥
  none_empty l = go s.entry s.placed
    where
      s : Standing h (slots_of t) i Empty
      s = at_stands h (slots_of t) (record { at = i; place = Empty }) l

      go : (e : Entry) → place_of_entry e ≡ Empty → ⊥
      go (reserved n) q = omega (arith, ap place_number q)
      go (enabled r) q = omega (arith, ap place_number q)
      go (disabled r) q = omega (arith, ap place_number q)
