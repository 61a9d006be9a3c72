-- The slots of a table, of which the first i are turned. Assumes nothing.
use Prim.Native.Nat.{ℕ, zero, suc, ◌+◌, ◌*◌, ◌≤◌, ◌<◌}
use mathlib.Core.Path.{◌≡◌, refl, sym, ap, ap₂, ◌∙◌}
use mathlib.Core.List.{List, [], ◌∷◌, ◌++◌, map}
use mathlib.Core.Bool.{true}
use native.Mathlib.Omega.{arith}
use native.Mathlib.Nat.{le_of_suc-le-suc, not-suc-le-zero}
use native.Mathlib.Numerals.{add-one}
use lib.Dec.{eqb}
use lib.ListN.{length, get_or, take, drop, set, length-drop}
use lib.Seq.{take_all, drop-drop}
use Rattle.profile.specs.Bytes.{Bytes, word, all, joined, Each}
use Rattle.profile.specs.Slot.{distinct}
use Rattle.profile.specs.Table.{kept_of, spare_of, slot_count, slot_bytes, slots_of, whole_slots}
use Rattle.profile.specs.Turning.{well_before, well_table_before, turn_slot}
use Rattle.profile.proofs.Logic.{and_parts, if_both}
use Rattle.profile.proofs.Strings.{length_each, joined_pieces, joined_set}
use Rattle.profile.proofs.WholeSlots.{slots_joined, size, cut}
use Rattle.profile.proofs.Turning.{Before, before}
use Rattle.tables.proofs.SlotParts.{length_bytes, get_d_slots, length_slot}

-- ---- the first i slots turned
abbrev pub turned_to : ℕ → List Bytes → List Bytes
turned_to zero ps = ps
turned_to (suc i) [] = []
turned_to (suc i) (p ∷ ps) = turn_slot p ∷ turned_to i ps

length_turned : (i : ℕ) (ps : List Bytes) → length (turned_to i ps) ≡ length ps
length_turned zero ps = refl
length_turned (suc i) [] = refl
length_turned (suc i) (p ∷ ps) = ap suc (length_turned i ps)

length_turn : (s : Bytes) → length s ≡ 4288 → length (turn_slot s) ≡ 4288
length_turn s e = if_both (λ (t : Bytes). length t ≡ 4288) (eqb (word 27 s) 0) e (ap suc (length-drop 1 s) ∙ omega arith)

each_turned : (i : ℕ) (ps : List Bytes) → Each 4288 ps → Each 4288 (turned_to i ps)
each_turned zero ps e = e
each_turned (suc i) [] e = tt
each_turned (suc i) (p ∷ ps) e = (length_turn p e.0, each_turned i ps e.1)

-- slot i is as it was, and turned it is one more
next_turned : (i : ℕ) (ps : List Bytes) → get_or (turned_to i ps) i [] ≡ get_or ps i []
next_turned zero ps = refl
next_turned (suc i) [] = refl
next_turned (suc i) (p ∷ ps) = next_turned i ps

set_turned : (i : ℕ) (ps : List Bytes) → i < length ps → set (turned_to i ps) i (turn_slot (get_or ps i [])) ≡ turned_to (suc i) ps
set_turned i [] h = absurd (not-suc-le-zero h)
set_turned zero (p ∷ ps) h = refl
set_turned (suc i) (p ∷ ps) h = ap {B = List Bytes} (λ (r : List Bytes). turn_slot p ∷ r) (set_turned i ps (le_of_suc-le-suc h))

all_turned : (i : ℕ) (ps : List Bytes) → length ps ≤ i → turned_to i ps ≡ map turn_slot ps
all_turned zero [] h = refl
all_turned zero (p ∷ ps) h = absurd (not-suc-le-zero h)
all_turned (suc i) [] h = refl
all_turned (suc i) (p ∷ ps) h = ap {B = List Bytes} (λ (r : List Bytes). turn_slot p ∷ r) (all_turned i ps (le_of_suc-le-suc h))

-- each slot of a table that was well formed
all_at : (i : ℕ) (ps : List Bytes) → i < length ps → all well_before ps ≡ true → well_before (get_or ps i []) ≡ true
all_at i [] h w = absurd (not-suc-le-zero h)
all_at zero (p ∷ ps) h w = (and_parts (well_before p) (all well_before ps) w).0
all_at (suc i) (p ∷ ps) h w = all_at i ps (le_of_suc-le-suc h) (and_parts (well_before p) (all well_before ps) w).1

-- ---- a table, its first i slots turned
unfoldable pub marked_to : ℕ → Bytes → Bytes
marked_to i t = joined (turned_to i (slot_bytes t))

module _ (t : Bytes) (whole : whole_slots t ≡ true) where
  slots_now : (i : ℕ) → slot_bytes (marked_to i t) ≡ turned_to i (slot_bytes t)
  unfolding marked_to
  slots_now i = slots_joined (turned_to i (slot_bytes t)) (each_turned i (slot_bytes t) (cut t whole))

  pub marked_length : (i : ℕ) → length (marked_to i t) ≡ length t
  unfolding marked_to
  marked_length i =
      length_each 4288 (turned_to i (slot_bytes t)) (each_turned i (slot_bytes t) (cut t whole))
      ∙ rw (length_turned i (slot_bytes t), length_bytes t) (sym (size t whole))

  pub marked_none : t ≡ marked_to 0 t
  unfolding marked_to slot_bytes
  marked_none = sym (joined_pieces 4288 (slot_count t) t ∙ take_all (4288 * slot_count t) t (omega (arith, size t whole)))

  pub marked_all : (i : ℕ) → slot_count t ≤ i → marked_to i t ≡ joined (map turn_slot (slot_bytes t))
  unfolding marked_to
  marked_all i h = ap joined (all_turned i (slot_bytes t) (rw (length_bytes t) h))

  module _ (i : ℕ) (h : i < slot_count t) (k : ℕ) (k-is : k ≡ 4288) where
    count_same : slot_count (marked_to i t) ≡ slot_count t
    count_same = rw (marked_length i)

    -- what is lent for slot i is the slot as it was
    lent_slot : take k (drop (4288 * i) (marked_to i t)) ≡ get_or (slot_bytes t) i []
    lent_slot =
        rw k-is
        (sym (get_d_slots (marked_to i t) i (rw count_same h)) ∙ ap (λ (ps : List Bytes). get_or ps i []) (slots_now i) ∙ next_turned i (slot_bytes t))

    lent_before : all well_before (slot_bytes t) ≡ true → Before (get_or (slot_bytes t) i [])
    lent_before w = before (get_or (slot_bytes t) i []) (all_at i (slot_bytes t) (rw (length_bytes t) h) w)

    -- and turned, one slot more is
    mark_more : (y : Bytes) → y ≡ turn_slot (take k (drop (4288 * i) (marked_to i t)))
        → take (4288 * i) (marked_to i t) ++ (y ++ drop k (drop (4288 * i) (marked_to i t))) ≡ marked_to (i + 1) t
    unfolding marked_to slot_bytes
    mark_more y e =
        ap (λ (m : ℕ). take (4288 * i) (marked_to i t) ++ (y ++ drop m (drop (4288 * i) (marked_to i t)))) k-is
        ∙ ap (λ (d : Bytes). take (4288 * i) (marked_to i t) ++ (y ++ d)) (drop-drop 4288 (4288 * i) (marked_to i t))
        ∙ sym (joined_set 4288 (slot_count (marked_to i t)) (marked_to i t) i y long (rw count_same h))
        ∙ ap joined (ap₂ (λ (ps : List Bytes) (z : Bytes). set ps i z) (slots_now i) (e ∙ ap turn_slot lent_slot) ∙ set_turned i (slot_bytes t) (rw (length_bytes t) h))
        ∙ ap (λ (j : ℕ). joined (turned_to j (slot_bytes t))) (sym (add-one i))
      where
        long : length (marked_to i t) ≡ 4288 * slot_count (marked_to i t)
        long = rw (marked_length i) (size t whole)

    -- the same of a table that is so by now
    module _ (t₁ : Bytes) (e : t₁ ≡ marked_to i t) where
      pub lent_marks : all well_before (slot_bytes t) ≡ true
          → (length (take k (drop (4288 * i) t₁)) ≡ 4288) × (kept_of (take k (drop (4288 * i) t₁)) ≡ 0) × (spare_of (take k (drop (4288 * i) t₁)) ≡ 0)
      lent_marks w = rw (e, lent_slot) (ap (λ (s : Bytes). length s) (get_d_slots t i h) ∙ length_slot t i h, (lent_before w).no_bit, (lent_before w).spare)

      pub mark_again : (y : Bytes) → y ≡ turn_slot (take k (drop (4288 * i) t₁)) → take (4288 * i) t₁ ++ (y ++ drop k (drop (4288 * i) t₁)) ≡ marked_to (i + 1) t
      mark_again y q = rw e (mark_more y (rw e at q))

-- ---- the tests before
pub slots_before : (t : Bytes) → well_table_before t ≡ true → all well_before (slot_bytes t) ≡ true
unfolding well_table_before
slots_before t w = (and_parts (all well_before (slot_bytes t)) (distinct (slots_of t)) w).0
