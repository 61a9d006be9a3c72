-- A table's slots from slot i on: slot i, and the slots after it. Assumes nothing.
use Prim.Native.Nat.{ℕ, zero, suc, ◌+◌, ◌-◌, ◌*◌, ◌<◌}
use mathlib.Core.Path.{◌≡◌, refl, sym, ap, ◌∙◌}
use mathlib.Core.List.{List, [], ◌∷◌, map}
use mathlib.Core.Bool.{Bool, false, ◌&&◌, not}
use native.Mathlib.Omega.{arith}
use native.Mathlib.Numerals.{add-one}
use lib.ListN.{length, get_or, take, drop, length-drop, drop_of_length-le}
use lib.Seq.{take_all, drop-cons}
use Rattle.std.specs.List.{list_all, range_with_len}
use Rattle.profile.specs.Bytes.{Bytes, part}
use Rattle.profile.specs.Slot.{Slot, empty, taken, in_use, distinct}
use Rattle.profile.specs.Table.{place_of, unpack, slot_count, slots_of}
use Rattle.slots.proofs.Unpacking.{unpack_empty, unpack_taken}
use Rattle.tables.specs.Again.{again}
use Rattle.tables.proofs.SlotParts.{slots_step}

-- slot i of a table, whose bytes are s
module _ (t : Bytes) (i : ℕ) (h : i < slot_count t) (s : Bytes) (e : s ≡ part (4288 * i) 4288 t) where
  pub slots_from : drop i (slots_of t) ≡ unpack s ∷ drop (i + 1) (slots_of t)
  slots_from = rw e (slots_step t i h)

-- ---- does the handle of slot i stand again in a later one?
module _ (ss : List Bytes) (i : ℕ) (h : i < length ss) where
  pub slots_on : drop i ss ≡ get_or ss i [] ∷ drop (i + 1) ss
  slots_on = rw add-one (drop-cons ss i [] h)

  pub again_empty : place_of (get_or ss i []) ≡ 0 → again (map unpack (drop i ss)) ≡ false
  unfolding again
  again_empty p = rw (slots_on, unpack_empty (get_or ss i []) p)

  pub again_taken : (place_of (get_or ss i []) ≡ 0 → ⊥) → again (map unpack (drop i ss)) ≡ in_use (part 1 10 (get_or ss i [])) (map unpack (drop (i + 1) ss))
  unfolding again
  again_taken p = rw (slots_on, (unpack_taken (get_or ss i []) p).1)

  -- as it is looked for: the bytes of its handle, in the part of the slots after it
  pub again_used : (place_of (get_or ss i []) ≡ 0 → ⊥) → (k : Bytes) → k ≡ part 1 10 (get_or ss i []) → (r : Bool)
      → r ≡ in_use k (map unpack (take (length ss - (i + 1)) (drop (i + 1) ss))) → r ≡ again (map unpack (drop i ss))
  again_used p k e r q =
      q
      ∙ ap (λ (us : List Bytes). in_use k (map unpack us)) (take_all (length ss - (i + 1)) (drop (i + 1) ss) (rw (length-drop (i + 1) ss) (omega arith)))
      ∙ rw e (sym (again_taken p))

-- ---- distinct handles: that of no slot stands again
distinct_first : (t : List Slot) (x : Slot) → distinct (x ∷ t) ≡ (not (again (x ∷ t)) && distinct t)
unfolding again
distinct_first t empty = refl
distinct_first t (taken h e) = refl

distinct_step : (s : Bytes) (t u : List Bytes) → u ≡ s ∷ t → distinct (map unpack u) ≡ (not (again (map unpack u)) && distinct (map unpack t))
distinct_step s t u e = rw e (distinct_first (map unpack t) (unpack s))

abbrev pub stands_alone : List Bytes → ℕ → Bool
stands_alone ss i = not (again (map unpack (drop i ss)))

pub distinct_from : (ss : List Bytes) (n i : ℕ) → i + n ≡ length ss → list_all (stands_alone ss) (range_with_len i n) ≡ distinct (map unpack (drop i ss))
distinct_from ss zero i e = rw (drop_of_length-le ss {i = i} (omega (arith, e)))
distinct_from ss (suc n) i e =
    ap (λ (b : Bool). stands_alone ss i && b) (distinct_from ss n (i + 1) (omega (arith, e)))
    ∙ sym (distinct_step (get_or ss i []) (drop (i + 1) ss) (drop i ss) (slots_on ss i (omega (arith, e))))
