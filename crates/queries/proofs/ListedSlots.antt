-- The list of kind 8 over some slots: one slot more, how long it is, how long its handles are. Assumes nothing.
use Prim.Native.Nat.{ℕ, zero, suc, ◌+◌, ◌*◌, ◌≤◌, ◌<◌}
use mathlib.Core.Path.{◌≡◌, sym, ap}
use mathlib.Core.List.{List, [], ◌∷◌, ◌++◌, append-nil, append_assoc}
use mathlib.Core.Bool.{true}
use native.Mathlib.Numerals.{add-one}
use native.Mathlib.Omega.{arith}
use lib.ListN.{length, get_or, take, length-append}
use lib.Seq.{take-suc, take_all}
use Rattle.profile.specs.Bytes.{Bytes, part, Each}
use Rattle.profile.specs.Sizes.{slot_size, most_slots, handle_size}
use Rattle.profile.specs.Slot.{reserved, enabled, disabled, Slot, empty, taken, SlotFits, TableFits}
use Rattle.profile.specs.Table.{unpack, slot_count, slots_of, whole_slots, well_table}
use Rattle.profile.specs.Agent.{asked, listed_slot, listed}
use Rattle.profile.proofs.Logic.{if_both}
use Rattle.profile.proofs.WellFormed.{table_fits, few_slots}
use Rattle.tables.proofs.SlotParts.{length_slots, unpacked_at}

-- ---- handles of k bytes
module _ (k : ℕ) where
  each_append : (ps qs : List Bytes) → Each k ps → Each k qs → Each k (ps ++ qs)
  each_append [] qs f g = g
  each_append (p ∷ ps) qs f g = (f.0, each_append ps qs f.1 g)

  pub each_take : (n : ℕ) (ps : List Bytes) → Each k ps → Each k (take n ps)
  each_take zero ps f = tt
  each_take (suc n) [] f = tt
  each_take (suc n) (p ∷ ps) f = (f.0, each_take n ps f.1)

fits_take : (n : ℕ) (t : List Slot) → TableFits t → TableFits (take n t)
fits_take zero t f = tt
fits_take (suc n) [] f = tt
fits_take (suc n) (s ∷ t) f = (f.0, fits_take n t f.1)

-- ---- the list over any slots
module _ (q : List Bytes) where
  slot_each : (s : Slot) → SlotFits s → Each handle_size (listed_slot q s)
  slot_each empty f = tt
  slot_each (taken h (reserved n)) f = tt
  slot_each (taken h (enabled r)) f = if_both (Each handle_size) (asked q r) (f.0, tt) tt
  slot_each (taken h (disabled r)) f = tt

  each_listed : (t : List Slot) → TableFits t → Each handle_size (listed q t)
  each_listed [] f = tt
  each_listed (s ∷ t) f = each_append handle_size (listed_slot q s) (listed q t) (slot_each s f.0) (each_listed t f.1)

  slot_once : (s : Slot) → length (listed_slot q s) ≤ 1
  slot_once empty = omega arith
  slot_once (taken h (reserved n)) = omega arith
  slot_once (taken h (enabled r)) = if_both (λ (hs : List Bytes). length hs ≤ 1) (asked q r) {x = h ∷ []} {y = []} (omega arith) (omega arith)
  slot_once (taken h (disabled r)) = omega arith

  few_listed : (t : List Slot) → length (listed q t) ≤ length t
  few_listed [] = omega arith
  few_listed (s ∷ t) = omega (arith, length-append (listed_slot q s) (listed q t), slot_once s, few_listed t)

  listed_snoc : (t : List Slot) (s : Slot) → listed q (t ++ (s ∷ [])) ≡ listed q t ++ listed_slot q s
  listed_snoc [] s = append-nil (listed_slot q s)
  listed_snoc (x ∷ t) s = rw (listed_snoc t s) (sym (append_assoc (listed_slot q x) (listed q t) (listed_slot q s)))

-- ---- over the slots of a table, of which i are passed
module _ (t : Bytes) (q : List Bytes) where
  pub listed_next : (i : ℕ) → i < slot_count t → (s : Bytes) → s ≡ part (slot_size * i) slot_size t
      → listed q (take (i + 1) (slots_of t)) ≡ listed q (take i (slots_of t)) ++ listed_slot q (unpack s)
  listed_next i h s e =
      let below : i < length (slots_of t) = rw (length_slots t) h in
      rw (add-one i, take-suc (slots_of t) i (unpack []) below, e, ← unpacked_at t i h) (listed_snoc q (take i (slots_of t)) (get_or (slots_of t) i (unpack [])))

  pub listed_whole : (i : ℕ) → slot_count t ≤ i → listed q (take i (slots_of t)) ≡ listed q (slots_of t)
  listed_whole i h = ap (listed q) (take_all i (slots_of t) (rw (length_slots t) h))

  module _ (whole : whole_slots t ≡ true) (well : well_table t ≡ true) where
    pub each_handle : Each handle_size (listed q (slots_of t))
    each_handle = each_listed q (slots_of t) (table_fits t whole well)

    pub each_passed : (i : ℕ) → Each handle_size (listed q (take i (slots_of t)))
    each_passed i = each_listed q (take i (slots_of t)) (fits_take i (slots_of t) (table_fits t whole well))

    pub few_listed_in : length (listed q (slots_of t)) ≤ most_slots
    few_listed_in = omega (arith, few_listed q (slots_of t), few_slots t whole well)
