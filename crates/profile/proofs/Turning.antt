-- PROFILE 2.7: what the turning of a table leaves, and what it refuses.
use Prim.Native.Nat.{ℕ, zero, suc, ◌+◌, ◌*◌, ◌%◌, ◌<◌}
use mathlib.Core.Path.{◌≡◌, refl, sym, ap, ap₂, ◌∙◌}
use mathlib.Core.List.{List, [], ◌∷◌, map}
use mathlib.Core.Bool.{Bool, true, false, ◌&&◌, ◌||◌, not, and-false, true≢false, false≢true}
use native.Mathlib.Omega.{arith}
use lib.Dec.{eqb}
use lib.ListN.{length, get_or, take, drop, length-map, length-drop}
use lib.Seq.{drop-drop, get_or-drop, get_or-take}
use Rattle.profile.specs.Bytes.{Bytes, byte, part, word, same, all_zero, all, any, joined, pieces, Each}
use Rattle.profile.specs.Sizes.{hash_size}
use Rattle.profile.specs.Slot.{kept_bit, Right, reserved, enabled, disabled, Slot, empty, taken, in_use, distinct}
use Rattle.profile.specs.Table.{place_of, hash_count_of, kept_of, spare_of, count_of, right_of, unpack, well_count, well_rest, well_slot, slot_count, slot_bytes, slots_of, whole_slots, well_table}
use Rattle.profile.specs.Turning.{well_before, well_table_before, count_before, right_before, unpack_before, keeps_count, turn_slot, Turned, turn}
use Rattle.profile.specs.Theorems.{Turns}
use Rattle.profile.proofs.Logic.{both, and_parts, not_false, eqb_eq, eqb_true, if_else, if_cases}
use Rattle.profile.proofs.Strings.{low_two, word_drop, zero_byte, length_each, length_pieces}
use Rattle.profile.proofs.WholeSlots.{slots_joined, size, cut}
use Rattle.profile.proofs.Counts.{slot_kept_again}
use Rattle.profile.proofs.Unpack.{well_rest_lem, WellReserved, well_reserved_lem}

-- ---- the tests of a slot by the rules before
pub record Before (s : Bytes) : Type 0 where
  pub no_bit : kept_of s ≡ 0
  pub spare : spare_of s ≡ 0
  pub rest : well_rest s ≡ true

pub before : (s : Bytes) → well_before s ≡ true → Before s
unfolding well_before
before s w =
    let t1 = and_parts _ (well_rest s) w in
    let t2 = and_parts (eqb (kept_of s) 0) (eqb (spare_of s) 0) t1.0 in
    record { no_bit = eqb_eq (kept_of s) 0 t2.0; spare = eqb_eq (spare_of s) 0 t2.1; rest = t1.1 }

-- ---- two slots that differ in their first byte alone
module _ (s t : Bytes) (tail : drop 1 t ≡ drop 1 s) where
  drop_same : (k : ℕ) → drop (1 + k) t ≡ drop (1 + k) s
  drop_same k = sym (drop-drop k 1 t) ∙ ap (drop k) tail ∙ drop-drop k 1 s

  word_same : (k : ℕ) → word (1 + k) t ≡ word (1 + k) s
  word_same k = word_drop (1 + k) t ∙ ap (word 0) (drop_same k) ∙ sym (word_drop (1 + k) s)

  gap_same : byte 191 t ≡ byte 191 s
  gap_same = sym (get_or-drop 191 t 0 0) ∙ ap (λ (d : Bytes). get_or d 0 0) (drop_same 190) ∙ get_or-drop 191 s 0 0

  -- and whose places and hash counts are the same, with a right in both
  module _ (p : ℕ) (at-s : place_of s ≡ suc (suc p)) (at-t : place_of t ≡ suc (suc p)) (hashes : hash_count_of t ≡ hash_count_of s) where
    after_hashes : drop (31 + 20 * hash_count_of s) t ≡ drop (31 + 20 * hash_count_of s) s
    after_hashes = let e : 1 + (30 + 20 * hash_count_of s) ≡ 31 + 20 * hash_count_of s = omega arith in rw e at (drop_same (30 + 20 * hash_count_of s))

    after_payload : drop (192 + word 29 s) t ≡ drop (192 + word 29 s) s
    after_payload = let e : 1 + (191 + word 29 s) ≡ 192 + word 29 s = omega arith in rw e at (drop_same (191 + word 29 s))

    rest_same : well_rest t ≡ well_rest s
    unfolding well_rest
    rest_same = rw (gap_same, hashes, after_hashes, word_same 28, after_payload, at-t, at-s)

-- ---- a slot that was well formed, turned
module _ (s : Bytes) (b : Before s) where
  low_bits : byte 0 s % 4 ≡ 0
  low_bits = low_two (byte 0 s) ∙ rw (b.no_bit, b.spare)

  -- without a count it stays as it is
  module _ (none : word 27 s ≡ 0) where
    well_none : well_slot s ≡ true
    unfolding well_slot
    well_none = both (both (eqb_true (spare_of s) 0 b.spare) (go (place_of s) refl)) b.rest
      where
        go : (p : ℕ) → place_of s ≡ p → well_count s ≡ true
        go zero at = rw (at, b.no_bit)
        go (suc zero) at = rw (at, b.no_bit)
        go (suc (suc p)) at = rw (at, b.no_bit, none)

    right_none : right_of s ≡ right_before s
    right_none = λ i. record { key = (right_of s).key; count = count i; hashes = (right_of s).hashes; payload = (right_of s).payload }
      where
        count : count_of s ≡ count_before s
        count = rw (b.no_bit, none)

    holds_none : unpack s ≡ unpack_before s
    unfolding unpack unpack_before
    holds_none =
        ap (λ (r : Right). get_or (empty ∷ taken (part 1 10 s) (reserved (word 29 s)) ∷ taken (part 1 10 s) (enabled r) ∷ []) (place_of s) (taken (part 1 10 s) (disabled r))) right_none

  -- only a right had a count
  has_right : (word 27 s ≡ 0 → ⊥) → (p : ℕ) → place_of s ≡ p → (q : ℕ) × (place_of s ≡ suc (suc q))
  has_right n zero at =
      let z : all_zero s ≡ true = rw at at (well_rest_lem s b.rest).placed in
      absurd (n (omega (arith, zero_byte s 27 z, zero_byte s 28 z)))
  has_right n (suc zero) at =
      let v : WellReserved s = well_reserved_lem s (rw at at (well_rest_lem s b.rest).placed) in
      absurd (n (omega (arith, key_byte 16 (omega arith) v.no_key, key_byte 17 (omega arith) v.no_key)))
    where
      key_byte : (i : ℕ) → i < 18 → all_zero (part 11 18 s) ≡ true → get_or s (11 + i) 0 ≡ 0
      key_byte i h z = sym (get_or-drop 11 s i 0) ∙ sym (get_or-take 18 (drop 11 s) i 0 h) ∙ zero_byte (part 11 18 s) i z
  has_right n (suc (suc q)) at = (q, at)

  -- with a count it gets the bit
  module _ (some_count : eqb (word 27 s) 0 ≡ false) where
    abbrev t : Bytes
    t = (byte 0 s + 2) ∷ drop 1 s

    placed : (q : ℕ) × (place_of s ≡ suc (suc q))
    placed = has_right (λ e. absurd (true≢false (sym (eqb_true (word 27 s) 0 e) ∙ some_count))) (place_of s) refl

    place_same : place_of t ≡ place_of s
    place_same = omega (arith, low_bits)

    hashes_same : hash_count_of t ≡ hash_count_of s
    hashes_same = omega (arith, low_bits)

    kept_1 : kept_of t ≡ 1
    kept_1 = omega (arith, low_bits)

    spare_0 : spare_of t ≡ 0
    spare_0 = omega (arith, low_bits)

    well_kept : well_slot t ≡ true
    unfolding well_slot
    well_kept =
        both (both (eqb_true (spare_of t) 0 spare_0) (rw (place_same, placed.1, kept_1)))
        (rest_same s t refl placed.0 placed.1 (place_same ∙ placed.1) hashes_same ∙ b.rest)

    right_kept : right_of t ≡ right_before s
    right_kept = λ i. record { key = key i; count = count i; hashes = hashes i; payload = payload i }
      where
        key : part 11 16 t ≡ part 11 16 s
        key = ap (take 16) (drop_same s t refl 10)

        count : count_of t ≡ count_before s
        count = rw (kept_1, word_same s t refl 26, some_count)

        hashes : pieces hash_size (hash_count_of t) (drop 31 t) ≡ pieces hash_size (hash_count_of s) (drop 31 s)
        hashes = ap₂ (λ (n : ℕ) (d : Bytes). pieces hash_size n d) hashes_same (drop_same s t refl 30)

        payload : part 192 (word 29 t) t ≡ part 192 (word 29 s) s
        payload = ap₂ (λ (n : ℕ) (d : Bytes). take n d) (word_same s t refl 28) (drop_same s t refl 191)

    holds_kept : unpack t ≡ unpack_before s
    unfolding unpack unpack_before
    holds_kept = rw (place_same, placed.1, right_kept)

-- what a slot that was well formed is turned to
record Turn1 (s t : Bytes) : Type 0 where
  long : length t ≡ 4288
  well : well_slot t ≡ true
  holds : unpack t ≡ unpack_before s
  others : drop 1 t ≡ drop 1 s

turn_1 : (s : Bytes) → length s ≡ 4288 → well_before s ≡ true → Turn1 s (turn_slot s)
turn_1 s e w =
    if_cases (Turn1 s) (eqb (word 27 s) 0)
    (λ z. let n : word 27 s ≡ 0 = eqb_eq (word 27 s) 0 z in record { long = e; well = well_none s b n; holds = holds_none s b n; others = refl })
    (λ z. record { long = ap suc (length-drop 1 s) ∙ omega arith; well = well_kept s b z; holds = holds_kept s b z; others = refl })
  where
    b : Before s
    b = before s w

-- ---- all slots
record TurnAll (ps qs : List Bytes) : Type 0 where
  each : Each 4288 qs
  well : all well_slot qs ≡ true
  holds : map unpack qs ≡ map unpack_before ps
  others : map (drop 1) qs ≡ map (drop 1) ps

turn_all : (ps : List Bytes) → Each 4288 ps → all well_before ps ≡ true → TurnAll ps (map turn_slot ps)
turn_all [] e w = record { each = tt; well = refl; holds = refl; others = refl }
turn_all (s ∷ ps) e w =
    let p = and_parts (well_before s) (all well_before ps) w in
    let x = turn_1 s e.0 p.0 in
    let y = turn_all ps e.1 p.1 in
    record {
      each = (x.long, y.each);
      well = both x.well y.well;
      holds = ap₂ {C = List Slot} (λ (a : Slot) (r : List Slot). a ∷ r) x.holds y.holds;
      others = ap₂ {C = List Bytes} (λ (a : Bytes) (r : List Bytes). a ∷ r) x.others y.others;
    }

-- ---- handles: whether they are distinct does not depend on what stands under them
anonymous : Slot → Slot
anonymous empty = empty
anonymous (taken h e) = taken h (reserved 0)

in_use_anonymous : (h : Bytes) (t : List Slot) → in_use h (map anonymous t) ≡ in_use h t
unfolding anonymous
in_use_anonymous h [] = refl
in_use_anonymous h (empty ∷ t) = in_use_anonymous h t
in_use_anonymous h (taken k e ∷ t) = ap (λ (b : Bool). same h k || b) (in_use_anonymous h t)

distinct_anonymous : (t : List Slot) → distinct (map anonymous t) ≡ distinct t
unfolding anonymous
distinct_anonymous [] = refl
distinct_anonymous (empty ∷ t) = distinct_anonymous t
distinct_anonymous (taken h e ∷ t) = ap₂ (λ (a b : Bool). not a && b) (in_use_anonymous h t) (distinct_anonymous t)

same_label : (s : Bytes) → anonymous (unpack_before s) ≡ anonymous (unpack s)
unfolding anonymous unpack unpack_before
same_label s = go (place_of s) refl
  where
    go : (p : ℕ) → place_of s ≡ p → anonymous (unpack_before s) ≡ anonymous (unpack s)
    go zero at = rw at
    go (suc zero) at = rw at
    go (suc (suc zero)) at = rw at
    go (suc (suc (suc p))) at = rw at

same_labels : (ps : List Bytes) → map anonymous (map unpack_before ps) ≡ map anonymous (map unpack ps)
same_labels [] = refl
same_labels (s ∷ ps) = ap₂ {C = List Slot} (λ (a : Slot) (r : List Slot). a ∷ r) (same_label s) (same_labels ps)

distinct_before : (ps : List Bytes) → distinct (map unpack_before ps) ≡ distinct (map unpack ps)
distinct_before ps = sym (distinct_anonymous (map unpack_before ps)) ∙ ap distinct (same_labels ps) ∙ distinct_anonymous (map unpack ps)

-- ---- tables
module _ (table : Bytes) (whole : whole_slots table ≡ true) (well : well_table_before table ≡ true) where
  abbrev turned : List Bytes
  turned = map turn_slot (slot_bytes table)

  parts : (all well_before (slot_bytes table) ≡ true) × (distinct (slots_of table) ≡ true)
  unfolding well_table_before
  parts = and_parts (all well_before (slot_bytes table)) (distinct (slots_of table)) well

  all_turned : TurnAll (slot_bytes table) turned
  all_turned = turn_all (slot_bytes table) (cut table whole) parts.0

  again : slot_bytes (joined turned) ≡ turned
  again = slots_joined turned all_turned.each

  as_long : length (joined turned) ≡ length table
  unfolding slot_bytes
  as_long = length_each 4288 turned all_turned.each ∙ rw (length-map (slot_bytes table) turn_slot, length_pieces 4288 (slot_count table) table) (sym (size table whole))

  turned_whole : whole_slots (joined turned) ≡ true
  unfolding whole_slots
  turned_whole = rw as_long whole

  turned_holds : slots_of (joined turned) ≡ map unpack_before (slot_bytes table)
  unfolding slots_of
  turned_holds = ap (map unpack) again ∙ all_turned.holds

  turned_well : well_table (joined turned) ≡ true
  unfolding well_table slots_of
  turned_well =
      both (ap (all well_slot) again ∙ all_turned.well)
      (ap distinct turned_holds ∙ distinct_before (slot_bytes table) ∙ parts.1)

  turned_others : map (drop 1) (slot_bytes (joined turned)) ≡ map (drop 1) (slot_bytes table)
  turned_others = ap (map (drop 1)) again ∙ all_turned.others

pub turns : (table : Bytes) → eqb (turn table).number 0 ≡ true → Turns table (turn table)
unfolding turn
turns table =
    if_else Leaves (not (whole_slots table)) (λ e. absurd (false≢true e)) λ a.
    if_else Leaves (not (well_table_before table)) (λ e. absurd (false≢true e)) λ b _.
    let whole : whole_slots table ≡ true = not_false (whole_slots table) a in
    let well : well_table_before table ≡ true = not_false (well_table_before table) b in
    record { whole = turned_whole table whole well; well = turned_well table whole well; holds = turned_holds table whole well; others = turned_others table whole well }
  where
    Leaves : Turned → Type 0
    Leaves o = eqb o.number 0 ≡ true → Turns table o

pub turn_refuses : (table : Bytes) → eqb (turn table).number 0 ≡ false → (turn table).table ≡ table
unfolding turn
turn_refuses table =
    if_else Stays (not (whole_slots table)) (λ e. refl) λ a.
    if_else Stays (not (well_table_before table)) (λ e. refl) λ b e. absurd (true≢false e)
  where
    Stays : Turned → Type 0
    Stays o = eqb o.number 0 ≡ false → o.table ≡ table

-- ---- a kept count
not_before : (s : Bytes) → keeps_count (unpack s) ≡ true → well_before s ≡ false
unfolding unpack well_before
not_before s = go (place_of s) refl
  where
    kept : eqb (kept_bit (count_of s)) 1 ≡ true → eqb (kept_of s) 0 ≡ false
    kept e = let k : kept_of s ≡ 1 = sym (slot_kept_again s) ∙ eqb_eq (kept_bit (count_of s)) 1 e in rw k

    go : (p : ℕ) → place_of s ≡ p → keeps_count (unpack s) ≡ true → well_before s ≡ false
    go zero at k = absurd (false≢true (rw at at k))
    go (suc zero) at k = absurd (false≢true (rw at at k))
    go (suc (suc zero)) at k = rw (kept (rw at at k))
    go (suc (suc (suc p))) at k = rw (kept (rw at at k))

some_not_before : (ps : List Bytes) → any keeps_count (map unpack ps) ≡ true → all well_before ps ≡ false
some_not_before [] e = absurd (false≢true e)
some_not_before (s ∷ ps) e = go (keeps_count (unpack s)) refl (some_not_before ps)
  where
    go : (b : Bool) → keeps_count (unpack s) ≡ b → (any keeps_count (map unpack ps) ≡ true → all well_before ps ≡ false) → all well_before (s ∷ ps) ≡ false
    go true k r = rw (not_before s k)
    go false k r = rw (r (rw k at e)) (and-false (well_before s))

pub turned_once : (table : Bytes) → whole_slots table ≡ true → any keeps_count (slots_of table) ≡ true → turn table ≡ record { number = 103; table = table }
unfolding turn well_table_before slots_of
turned_once table whole k = rw (whole, some_not_before (slot_bytes table) k)
