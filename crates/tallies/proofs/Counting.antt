-- The tally of a well-formed table as a number of four counts and a sum: what each slot adds, and that both have room (PROFILE 2.8). Assumes nothing.
use Prim.Native.Nat.{ℕ, ◌+◌, ◌*◌, ◌≤◌, ◌<◌, ◌/◌, ◌%◌}
use mathlib.Core.Path.{◌≡◌, refl, sym, ap, ◌∙◌}
use mathlib.Core.List.{List, [], ◌∷◌}
use mathlib.Core.Bool.{true}
use native.Mathlib.Omega.{arith}
use borrow.Author.Tests.{lt-ltb, le-ltb}
use lib.ListN.{length, get_or, drop, length-take, length-drop}
use Rattle.profile.specs.Bytes.{Bytes, part, word}
use Rattle.profile.specs.Table.{place_of, right_of, unpack, well_slot, well_table, whole_slots, slot_count, slot_bytes, slots_of}
use Rattle.profile.specs.Tally.{Tally, tally_with, in_slot, plus, tally_of, tally_in}
use Rattle.profile.proofs.WellFormed.{few_slots}
use Rattle.profile.proofs.TallyLaws.{counts_all}
use Rattle.slots.specs.declared.place.Place.{Place}
use Rattle.slots.specs.declared.place.Place.TheVariants.{Empty, Reserved, Enabled, Disabled}
use Rattle.slots.specs.Places.{place_number}
use Rattle.slots.proofs.Unpacking.{unpack_empty, unpack_reserved, unpack_enabled, unpack_disabled}
use Rattle.slots.proofs.WellSlots.{length_most_4096}
use Rattle.tables.proofs.SlotParts.{length_slots, length_slot, get_d_slots, slots_end}
use Rattle.tables.proofs.Turns.{slots_from}
use Rattle.tables.proofs.WellTables.{slot_well}
use Rattle.tallies.specs.Shares.{share, in_sum}
use Rattle.tallies.proofs.Lanes.{packed, unpacked}

-- what a slot adds to the number of four counts, by its place
abbrev pub ones : List ℕ
ones = 1 ∷ 65536 ∷ 4294967296 ∷ 281474976710656 ∷ []

-- ---- what a slot counts for, by its place
pub no_right : (place len : ℕ) → place < 2 → 0 ≡ in_sum place len
no_right place len h = rw (lt-ltb place 2 h)

pub of_right : (place len : ℕ) → 2 ≤ place → len ≡ in_sum place len
of_right place len h = rw (le-ltb place 2 h)

record Adds (p : Place) (n : ℕ) : Type 0 where
  place : packed (share p n) ≡ get_or ones (place_number p) 0
  bytes : (share p n).payload ≡ in_sum (place_number p) n
  most : in_sum (place_number p) n ≤ n

adds : (p : Place) (n : ℕ) → Adds p n
adds Empty n = record { place = refl; bytes = refl; most = omega arith }
adds Reserved n = record { place = refl; bytes = refl; most = omega arith }
adds Enabled n = record { place = refl; bytes = refl; most = omega arith }
adds Disabled n = record { place = refl; bytes = refl; most = omega arith }

module _ (s : Bytes) (long : length s ≡ 4288) (well : well_slot s ≡ true) where
  payload_long : length (right_of s).payload ≡ word 29 s
  payload_long = length-take (word 29 s) (drop 192 s) ∙ rw (length-drop 192 s) (omega (arith, length_most_4096 s well))

  slot_share : (p : Place) → place_number p ≡ place_of s → in_slot (unpack s) ≡ share p (word 29 s)
  slot_share Empty at = rw (unpack_empty s (sym at))
  slot_share Reserved at = rw (unpack_reserved s (sym at))
  slot_share Enabled at = rw (unpack_enabled s (sym at)) (ap (tally_with 0 0 1 0) payload_long)
  slot_share Disabled at = rw (unpack_disabled s 0 (sym at)) (ap (tally_with 0 0 0 1) payload_long)

-- ---- the slots of a well-formed table, one after another
-- the numbers so far, and what the slots from i on are still to add
pub record Counted (t : Bytes) (i places payload : ℕ) : Type 0 where
  pub placed : places + packed (tally_of (drop i (slots_of t))) ≡ packed (tally_in t)
  pub summed : payload + (tally_of (drop i (slots_of t))).payload ≡ (tally_in t).payload
  pub most : payload ≤ 4096 * i

module _ (t : Bytes) where
  pub none_counted : Counted t 0 0 0
  none_counted = record { placed = omega arith; summed = omega arith; most = omega arith }

  module _ (well : well_table t ≡ true) where
    -- slot i, whose bytes are s
    module _ (i : ℕ) (below : i < slot_count t) (s : Bytes) (e : s ≡ part (4288 * i) 4288 t) where
      good : well_slot s ≡ true
      good = rw e (slot_well t i well below)

      more : tally_of (drop i (slots_of t)) ≡ plus (in_slot (unpack s)) (tally_of (drop (i + 1) (slots_of t)))
      unfolding tally_of
      more = rw (slots_from t i below s e)

      pub one_counted : (p : Place) (place len places payload : ℕ) → place_number p ≡ place_of s → place ≡ place_number p → len ≡ word 29 s → Counted t i places payload
          → Counted t (i + 1) (places + get_or ones place 0) (payload + in_sum place len)
      one_counted p place len places payload at number long c =
          let q : in_slot (unpack s) ≡ share p (word 29 s) = slot_share s (rw e (length_slot t i below)) good p at in
          let a : Adds p (word 29 s) = adds p (word 29 s) in
          rw (number, long)
          (record {
            placed = omega (arith, c.placed, ap packed more, ap packed q, a.place);
            summed = omega (arith, c.summed, ap (λ (y : Tally). y.payload) more, ap (λ (y : Tally). y.payload) q, a.bytes);
            most = omega (arith, c.most, a.most, length_most_4096 s good);
          })

    -- slot i of those that are lent of the table at once
    module _ (ss : List Bytes) (lent : (ss ≡ slot_bytes t) × (length ss ≡ slot_count t)) (i : ℕ) (below : i < length ss) where
      pub one_lent : (p : Place) (place len places payload : ℕ) → place_number p ≡ place_of (get_or ss i []) → place ≡ place_number p → len ≡ word 29 (get_or ss i []) → Counted t i places payload
          → Counted t (i + 1) (places + get_or ones place 0) (payload + in_sum place len)
      one_lent =
          let h : i < slot_count t = omega (arith, lent.1, below) in
          one_counted i h (get_or ss i []) (rw lent.0 (get_d_slots t i h))

    -- at most 15 slots: four counts have room in one number, and the sum in 16 bits
    module _ (whole : whole_slots t ≡ true) where
      pub slots_most_15 : slot_count t ≤ 15
      slots_most_15 = rw (length_slots t) at (few_slots t whole well)

      pub counts_most_15 : (tally_in t).empty + (tally_in t).reserved + (tally_in t).enabled + (tally_in t).disabled ≤ 15
      counts_most_15 = omega (arith, counts_all (slots_of t), few_slots t whole well)

      -- after the last slot the numbers are those of the tally
      pub all_counted : (i places payload : ℕ) → slot_count t ≤ i → Counted t i places payload
          → tally_with (places % 65536) (places / 65536 % 65536) (places / 4294967296 % 65536) (places / 281474976710656) payload ≡ tally_in t
      unfolding tally_of
      all_counted i places payload end c =
          unpacked (tally_in t) places payload counts_most_15
          (omega (arith, rw (slots_end t i end) at c.placed))
          (omega (arith, rw (slots_end t i end) at c.summed))
