-- What is found of slot i, by its tests and by the slots below it. Assumes nothing.
use Prim.Native.Nat.{ℕ, zero, suc, ◌*◌, ◌≤◌, ◌<◌}
use mathlib.Core.Path.{◌≡◌, refl, sym, ap, ◌∙◌}
use mathlib.Core.List.{List, [], ◌∷◌, map, append-nil}
use mathlib.Core.Bool.{Bool, true, false, ◌&&◌}
use native.Mathlib.Omega.{arith}
use native.Mathlib.Nat.{not-suc-le-zero, le_of_suc-le-suc}
use lib.ListN.{length, get_or, take, drop}
use lib.Seq.{length-take-le}
use Rattle.profile.specs.Bytes.{Bytes, part, pieces}
use Rattle.profile.specs.Slot.{Slot, empty, taken, in_use, distinct}
use Rattle.profile.specs.Table.{place_of, unpack, well_slot, slot_count, slot_bytes, slots_of, well_table}
use Rattle.profile.specs.Salvage.{kept, damaged, repeated, judge}
use Rattle.profile.proofs.WholeSlots.{slots_joined}
use Rattle.slots.proofs.Pieces.{pieces_within}
use Rattle.slots.proofs.Unpacking.{unpack_empty, unpack_taken}
use Rattle.tables.proofs.SlotParts.{get_d_slots}

-- ---- the slots below slot i are those of the table's first bytes
take_pieces : (k i n : ℕ) (s : Bytes) → i ≤ n → take i (pieces k n s) ≡ pieces k i s
take_pieces k zero n s h = refl
take_pieces k (suc i) zero s h = absurd (not-suc-le-zero h)
take_pieces k (suc i) (suc n) s h = ap {B = List Bytes} (λ r. take k s ∷ r) (take_pieces k i n (drop k s) (le_of_suc-le-suc h))

take_map : (i : ℕ) (ps : List Bytes) → take i (map unpack ps) ≡ map unpack (take i ps)
take_map zero ps = refl
take_map (suc i) [] = refl
take_map (suc i) (p ∷ ps) = ap {B = List Slot} (λ r. unpack p ∷ r) (take_map i ps)

pub slots_below : (t : Bytes) (i : ℕ) → i < slot_count t → slots_of (take (4288 * i) t) ≡ take i (slots_of t)
unfolding slots_of slot_bytes
slots_below t i h =
    let n : slot_count (take (4288 * i) t) ≡ i = rw (length-take-le (4288 * i) t (omega (arith, h))) (omega arith) in
    rw n
    (ap (map unpack) (pieces_within 4288 i (4288 * i) t (omega arith) (omega (arith, h)) ∙ sym (take_pieces 4288 i (slot_count t) t (omega (arith, h))))
    ∙ sym (take_map i (pieces 4288 (slot_count t) t)))

-- ---- a table of one slot is well formed where the slot is
distinct_one : (x : Slot) → distinct (x ∷ []) ≡ true
distinct_one empty = refl
distinct_one (taken h e) = refl

and_both : (a b : Bool) → b ≡ true → ((a && true) && b) ≡ a
and_both true b e = e
and_both false b e = refl

pub alone : (s : Bytes) → length s ≡ 4288 → well_table s ≡ well_slot s
unfolding well_table slots_of
alone s e =
    let one : slot_bytes s ≡ s ∷ [] = ap slot_bytes (sym (append-nil s)) ∙ slots_joined (s ∷ []) (e, tt) in
    rw one (and_both (well_slot s) (distinct (unpack s ∷ [])) (distinct_one (unpack s)))

-- ---- what is found of a slot whose bytes are s
module _ (t : Bytes) (i : ℕ) (h : i < slot_count t) (s : Bytes) (e : s ≡ part (4288 * i) 4288 t) where
  slot_is : get_or (slot_bytes t) i [] ≡ s
  slot_is = get_d_slots t i h ∙ sym e

  pub finds_damage : well_slot s ≡ false → damaged ≡ judge (take i (slots_of t)) (get_or (slot_bytes t) i [])
  finds_damage w = rw (slot_is, w)

  pub finds_none : well_slot s ≡ true → place_of s ≡ 0 → kept ≡ judge (take i (slots_of t)) (get_or (slot_bytes t) i [])
  finds_none w p = rw (slot_is, w, unpack_empty s p)

  module _ (w : well_slot s ≡ true) (p : place_of s ≡ 0 → ⊥) (k : Bytes) (k-is : k ≡ part 1 10 s) where
    pub finds_again : in_use k (slots_of (take (4288 * i) t)) ≡ true → repeated ≡ judge (take i (slots_of t)) (get_or (slot_bytes t) i [])
    finds_again u = rw (slot_is, w, (unpack_taken s p).1, ← k-is, ← slots_below t i h, u)

    pub finds_once : in_use k (slots_of (take (4288 * i) t)) ≡ false → kept ≡ judge (take i (slots_of t)) (get_or (slot_bytes t) i [])
    finds_once u = rw (slot_is, w, (unpack_taken s p).1, ← k-is, ← slots_below t i h, u)
