-- When a slot is well formed, test by test. Assumes nothing.
use Prim.Native.Nat.{ℕ, zero, suc, ◌+◌, ◌-◌, ◌*◌, ◌≤◌, ◌<◌}
use mathlib.Core.Path.{◌≡◌, refl, sym, ap, ◌∙◌}
use mathlib.Core.List.{[], ◌∷◌}
use mathlib.Core.Bool.{Bool, true, false, ◌&&◌, and-false, and-true, and_assoc, and_comm}
use native.Mathlib.Omega.{arith}
use borrow.Author.Tests.{lt-leb, le-leb}
use lib.Dec.{eqb, leb, ltb}
use lib.ListN.{length, get_or, take, drop, length-drop}
use lib.Seq.{take_all, take-suc, drop-drop, get_or-drop}
use Rattle.profile.specs.Bytes.{Bytes, byte, part, word, all_zero}
use Rattle.profile.specs.Slot.{count_holds}
use Rattle.profile.specs.Table.{place_of, hash_count_of, kept_of, well_placed, well_count, well_rest, well_slot}
use Rattle.profile.specs.Turning.{well_before}
use Rattle.profile.proofs.Logic.{both, and_parts, from_1_to_says}
use Rattle.profile.proofs.Strings.{zero_byte, zero_drop}
use Rattle.profile.proofs.Unpack.{well_slot_lem, well_reserved_lem}
use Rattle.zeros.proofs.ZeroBytes.{zero_both}
use Rattle.slots.specs.declared.place.Place.{Place}
use Rattle.slots.specs.declared.place.Place.TheVariants.{Empty, Reserved, Enabled, Disabled}
use Rattle.slots.specs.declared.well.Rules.{Rules}
use Rattle.slots.specs.declared.well.Rules.TheVariants.{Today, Before}
use Rattle.slots.specs.Places.{place_number}
use Rattle.slots.specs.Rules.{low_by, well_by}
use Rattle.slots.specs.Taken.{payload_in, awaits_well}

-- ---- zero bytes
-- a part of some zero bytes
zero_take : (n : ℕ) (s : Bytes) → all_zero s ≡ true → all_zero (take n s) ≡ true
zero_take zero s z = refl
zero_take (suc n) [] z = refl
zero_take (suc n) (x ∷ s) z =
    let p = and_parts (eqb x 0) (all_zero s) z in
    both p.0 (zero_take n s p.1)

module _ (s : Bytes) where
  -- ---- by place
  pub some_count : 2 ≤ place_of s → count_holds (kept_of s) (word 27 s) ≡ well_count s
  some_count h = go (place_of s) refl
    where
      go : (p : ℕ) → place_of s ≡ p → count_holds (kept_of s) (word 27 s) ≡ well_count s
      go zero at = absurd (omega (arith, h, at))
      go (suc zero) at = absurd (omega (arith, h, at))
      go (suc (suc n)) at = rw at

  pub well_parts : (r : Rules) (low rest : Bool) → low ≡ low_by r s → rest ≡ well_rest s → (low && rest) ≡ well_by r s
  unfolding well_slot well_before
  well_parts Today low rest a b = rw (a, b)
  well_parts Before low rest a b = rw (a, b)

  pub empty_slot : place_of s ≡ 0 → well_rest s ≡ all_zero s
  unfolding well_rest
  empty_slot at = go (all_zero s) refl
    where
      go : (b : Bool) → all_zero s ≡ b → well_rest s ≡ b
      go true z =
          rw (at, z, zero_byte s 0 z, zero_byte s 191 z, zero_drop (192 + word 29 s) s z, zero_take 160 (drop 31 s) (zero_drop 31 s z))
      go false z = rw (at, z, and-false)

  -- ---- the two bounds
  pub too_many_hashes : 8 < hash_count_of s → well_rest s ≡ false
  unfolding well_rest
  too_many_hashes h = rw (lt-leb (hash_count_of s) 8 h, and-false)

  pub too_long : 0 < place_of s → 4096 < word 29 s → well_rest s ≡ false
  unfolding well_rest
  too_long taken h = go (place_of s) refl
    where
      go : (p : ℕ) → place_of s ≡ p → well_rest s ≡ false
      go zero at = absurd (omega (arith, taken, at))
      go (suc zero) at = rw (at, lt-leb (word 29 s) 4096 h) (simp and-false)
      go (suc (suc n)) at = rw (at, lt-leb (word 29 s) 4096 h) (simp and-false)

module _ (s : Bytes) (len-s : length s ≡ 4288) where
  -- the part up to the slot's end is all that is left
  pub zero_tail : (at : ℕ) → all_zero (part at (4288 - at) s) ≡ all_zero (drop at s)
  zero_tail at = ap all_zero (take_all (4288 - at) (drop at s) (rw (length-drop at s) (omega arith)))

  -- the bytes after the last hash, and byte 191 after them
  pub zero_gap : (a : ℕ) → a ≤ 191 → all_zero (part a (192 - a) s) ≡ (eqb (byte 191 s) 0 && all_zero (part a (191 - a) s))
  zero_gap a h =
      let n = 191 - a in
      let one : 192 - a ≡ suc n = omega arith in
      let last : a + n ≡ 191 = omega arith in
      rw one
      (ap all_zero (take-suc (drop a s) n 0 (rw (length-drop a s) (omega arith)))
      ∙ zero_both (part a n s) (get_or (drop a s) n 0 ∷ [])
      ∙ rw (get_or-drop a s n 0, last, and-true)
      (and_comm (all_zero (part a n s)) (eqb (byte 191 s) 0)))

  -- the tests that are left where the two bounds hold, by place
  pub taken_parts : (p : Place) (hashes len : ℕ) (gap rest awaits : Bool) → place_number p ≡ place_of s → 0 < place_of s
      → hashes ≡ hash_count_of s → len ≡ word 29 s → hashes ≤ 8 → len ≤ 4096
      → gap ≡ all_zero (part (31 + 20 * hashes) (192 - (31 + 20 * hashes)) s)
      → rest ≡ all_zero (part (192 + payload_in p len) (4288 - (192 + payload_in p len)) s)
      → awaits ≡ awaits_well p hashes s
      → (gap && rest && ltb 0 len && awaits) ≡ well_rest s
  unfolding well_rest
  taken_parts p hashes len gap rest awaits at taken e-hashes e-len few short e-gap e-rest e-awaits =
      go p at (e-rest ∙ zero_tail (192 + payload_in p len)) e-awaits
    where
      few' : leb (hash_count_of s) 8 ≡ true
      few' = le-leb (hash_count_of s) 8 (rw e-hashes at few)

      short' : leb (word 29 s) 4096 ≡ true
      short' = le-leb (word 29 s) 4096 (rw e-len at short)

      g : gap ≡ (eqb (byte 191 s) 0 && all_zero (part (31 + 20 * hash_count_of s) (160 - 20 * hash_count_of s) s))
      g =
          let e : 191 - (31 + 20 * hashes) ≡ 160 - 20 * hashes = omega arith in
          rw (e, e-hashes) at (e-gap ∙ zero_gap (31 + 20 * hashes) (omega (arith, few)))

      go : (p : Place) → place_number p ≡ place_of s → rest ≡ all_zero (drop (192 + payload_in p len) s) → awaits ≡ awaits_well p hashes s
          → (gap && rest && ltb 0 len && awaits) ≡ well_rest s
      go Empty q r w = absurd (omega (arith, taken, q))
      go Enabled q r w = rw (sym q, g, rw e-len at r, w, e-len, few', short') (simp (and-true, and_assoc))
      go Disabled q r w = rw (sym q, g, rw e-len at r, w, e-len, few', short') (simp (and-true, and_assoc))
      go Reserved q r w = split (all_zero (drop 192 s)) refl
        where
          split : (b : Bool) → all_zero (drop 192 s) ≡ b
              → (gap && rest && ltb 0 len && awaits) ≡ well_rest s
          split true z =
              let t : all_zero (drop (192 + word 29 s) s) ≡ true = rw (drop-drop (word 29 s) 192 s) at (zero_drop (word 29 s) (drop 192 s) z) in
              rw (sym q, g, r, w, e-len, e-hashes, z, t, few', short') (simp (and-true, and_assoc))
          split false z = rw (sym q, r, z) (simp and-false)

-- ---- what holds in a well-formed slot
module _ (s : Bytes) (well : well_slot s ≡ true) where
  pub few_hashes : hash_count_of s ≤ 8
  few_hashes = (well_slot_lem s well).others.few

  -- the bit and the number of an enabled or disabled slot say a count
  pub count_said : 2 ≤ place_of s → count_holds (kept_of s) (word 27 s) ≡ true
  count_said h = some_count s h ∙ (well_slot_lem s well).counted

  -- a slot that is not empty has a length of 1 to 4,096
  pub length_1_to_4096 : (place_of s ≡ 0 → ⊥) → (1 ≤ word 29 s) × (word 29 s ≤ 4096)
  length_1_to_4096 taken = go (place_of s) refl
    where
      placed : well_placed s ≡ true
      placed = (well_slot_lem s well).others.placed

      go : (p : ℕ) → place_of s ≡ p → (1 ≤ word 29 s) × (word 29 s ≤ 4096)
      go zero at = absurd (taken at)
      go (suc zero) at = (well_reserved_lem s (rw at at placed)).long
      go (suc (suc n)) at = from_1_to_says 4096 (word 29 s) (rw at at placed)

  -- and an empty one has length 0
  pub length_most_4096 : word 29 s ≤ 4096
  length_most_4096 = go (place_of s) refl
    where
      go : (p : ℕ) → place_of s ≡ p → word 29 s ≤ 4096
      go zero at = let z : all_zero s ≡ true = rw at at (well_slot_lem s well).others.placed in omega (arith, zero_byte s 29 z, zero_byte s 30 z)
      go (suc p) at = (length_1_to_4096 (λ e. omega (arith, e))).1
