-- PROFILE 2.10: where one slot of a well-formed table has come to other bytes, a salvage clears at most one slot, and which that can be.
use Prim.Native.Nat.{ℕ, zero, suc, ◌≤◌, ◌<◌}
use mathlib.Core.Path.{◌≡◌, refl, sym, ap, ◌∙◌}
use mathlib.Core.Logic.{◌⊎◌, inl, inr}
use mathlib.Core.List.{List, [], ◌∷◌, map}
use mathlib.Core.Bool.{Bool, true, false, true≢false, false≢true}
use mathlib.Core.Option.{Option, some, some-injective}
use native.Mathlib.Omega.{arith}
use native.Mathlib.Nat.{suc_inj}
use lib.ListN.{length, set, get_elem?, length-set}
use Rattle.profile.specs.Bytes.{Bytes, same, zeros, all, joined, Each}
use Rattle.profile.specs.Sizes.{slot_size}
use Rattle.profile.specs.Slot.{Entry, Slot, empty, taken, named, in_use, distinct}
use Rattle.profile.specs.Table.{unpack, well_slot, slot_count, slot_bytes, whole_slots, well_table}
use Rattle.profile.specs.Salvage.{Finding, repeated, mended, repeats, judge, findings, left_by, cleared, findings_of, salvage}
use Rattle.profile.specs.Salvages.{TakenAt, Finds, is_damaged, is_repeated, is_kept, Beside, stays, gives_way}
use Rattle.profile.proofs.Logic.{and_parts, or_parts, same_refl, same_eq, split}
use Rattle.profile.proofs.Strings.{length_each, length_pieces}
use Rattle.profile.proofs.WholeSlots.{slots_joined, size, cut}
use Rattle.profile.proofs.Salvage.{by_judge, mended_well, mended_not, Apart, apart_tail, distinct_tail, distinct_head, or_cases, no_repeat, judge_kept, all_kept, none_cleared, not_refused, formed, salvages}
use Rattle.profile.proofs.FirstEmpty.{not_there}
use Rattle.profile.proofs.Laws.{apart}

-- ---- the handle of a slot
handle_in : Slot → Bytes
handle_in empty = []
handle_in (taken h e) = h

named_is : (h : Bytes) (s : Slot) → named h s ≡ true → h ≡ handle_in s
unfolding handle_in
named_is h empty n = absurd (false≢true n)
named_is h (taken k e) n = same_eq h k n

-- a repeated slot has its handle, and a lower one has it too
repeats_who : (lower : List Slot) (s : Slot) → repeats lower s ≡ true → (named (handle_in s) s ≡ true) × (in_use (handle_in s) lower ≡ true)
unfolding handle_in
repeats_who lower empty r = absurd (false≢true r)
repeats_who lower (taken k e) r = (same_refl k, r)

judge_repeated : (lower : List Slot) (s : Bytes) → well_slot s ≡ true → repeats lower (unpack s) ≡ true → judge lower s ≡ repeated
judge_repeated lower s w r = rw (w, r)

-- no slot is cleared
none_of : (lower : List Slot) (slots : List Bytes) → all well_slot slots ≡ true → distinct (map unpack slots) ≡ true → Apart lower slots → cleared (findings lower slots) ≡ 0
none_of lower slots w d a = ap cleared (all_kept lower slots w d a) ∙ none_cleared (length slots)

-- ---- slots of which one at most has a handle of the lower ones, and then k
abbrev ApartBut : Bytes → List Slot → List Bytes → Type 0
ApartBut k lower slots = (h : Bytes) → same h k ≡ false → in_use h lower ≡ true → in_use h (map unpack slots) ≡ false

module _ (k : Bytes) (lower : List Slot) (s : Bytes) (slots : List Bytes) (a : ApartBut k lower (s ∷ slots)) (d : distinct (unpack s ∷ map unpack slots) ≡ true) where
  but_tail : ApartBut k (unpack s ∷ lower) slots
  but_tail h q u = go (or_cases (named h (unpack s)) (in_use h lower) u)
    where
      go : (named h (unpack s) ≡ true) ⊎ (in_use h lower ≡ true) → in_use h (map unpack slots) ≡ false
      go (inl n) = distinct_head (unpack s) (map unpack slots) d h n
      go (inr n) = (or_parts (named h (unpack s)) (in_use h (map unpack slots)) (a h q n)).1

  -- where this one has it, none after it has
  module _ (r : repeats lower (unpack s) ≡ true) where
    who : (named (handle_in (unpack s)) (unpack s) ≡ true) × (in_use (handle_in (unpack s)) lower ≡ true)
    who = repeats_who lower (unpack s) r

    has_k : handle_in (unpack s) ≡ k
    has_k = split (handle_in (unpack s)) k (λ e. e)
        (λ q. absurd (true≢false (sym who.0 ∙ (or_parts (named (handle_in (unpack s)) (unpack s)) (in_use (handle_in (unpack s)) (map unpack slots)) (a (handle_in (unpack s)) q who.1)).0)))

    apart_then : Apart (unpack s ∷ lower) slots
    apart_then h u = split h k
        (λ e. distinct_head (unpack s) (map unpack slots) d h (rw (e ∙ sym has_k) who.0))
        (λ q. but_tail h q u)

few_by_one : (k : Bytes) (lower : List Slot) (slots : List Bytes) → all well_slot slots ≡ true → distinct (map unpack slots) ≡ true → ApartBut k lower slots → cleared (findings lower slots) ≤ 1
few_by_one k lower [] w d a = omega arith
few_by_one k lower (s ∷ slots) w d a = go (repeats lower (unpack s)) refl (few_by_one k (unpack s ∷ lower) slots p.1 (distinct_tail (unpack s) (map unpack slots) d) (but_tail k lower s slots a d))
  where
    p : (well_slot s ≡ true) × (all well_slot slots ≡ true)
    p = and_parts (well_slot s) (all well_slot slots) w

    go : (b : Bool) → repeats lower (unpack s) ≡ b → cleared (findings (unpack s ∷ lower) slots) ≤ 1 → cleared (judge lower s ∷ findings (mended s ∷ lower) slots) ≤ 1
    go true r ih =
        rw (judge_repeated lower s p.0 r, mended_well s p.0)
        (omega (arith, none_of (unpack s ∷ lower) slots p.1 (distinct_tail (unpack s) (map unpack slots) d) (apart_then k lower s slots a d r)))
    go false r ih = rw (judge_kept lower s p.0 r, mended_well s p.0) ih

-- ---- one slot with other bytes
module _ (lower : List Slot) (s' s : Bytes) (slots : List Bytes) (w : all well_slot slots ≡ true) (d : distinct (map unpack slots) ≡ true) (a : Apart lower (s ∷ slots)) where
  apart_rest : Apart lower slots
  apart_rest h u = (or_parts (named h (unpack s)) (in_use h (map unpack slots)) (a h u)).1

  apart_repeated : repeats lower (unpack s') ≡ true → Apart (unpack s' ∷ lower) slots
  apart_repeated r h u = go (or_cases (named h (unpack s')) (in_use h lower) u)
    where
      go : (named h (unpack s') ≡ true) ⊎ (in_use h lower ≡ true) → in_use h (map unpack slots) ≡ false
      go (inl n) = apart_rest h (rw (named_is h (unpack s') n) (repeats_who lower (unpack s') r).1)
      go (inr n) = apart_rest h n

  apart_kept : ApartBut (handle_in (unpack s')) (unpack s' ∷ lower) slots
  apart_kept h q u = go (or_cases (named h (unpack s')) (in_use h lower) u)
    where
      go : (named h (unpack s') ≡ true) ⊎ (in_use h lower ≡ true) → in_use h (map unpack slots) ≡ false
      go (inl n) = absurd (true≢false (sym (same_refl (handle_in (unpack s'))) ∙ (rw (named_is h (unpack s') n) at q)))
      go (inr n) = apart_rest h n

  one_here : cleared (findings lower (s' ∷ slots)) ≤ 1
  one_here =
      by_judge (λ f. cleared (f ∷ findings (mended s' ∷ lower) slots) ≤ 1) lower s'
      (λ e. rw (mended_not s' e) (omega (arith, none_of (empty ∷ lower) slots w d apart_rest)))
      (λ e r. rw (mended_well s' e) (omega (arith, none_of (unpack s' ∷ lower) slots w d (apart_repeated r))))
      (λ e r. rw (mended_well s' e) (few_by_one (handle_in (unpack s')) (unpack s' ∷ lower) slots w d apart_kept))

one_changed : (i : ℕ) (lower : List Slot) (slots : List Bytes) (s' : Bytes) → all well_slot slots ≡ true → distinct (map unpack slots) ≡ true → Apart lower slots
    → cleared (findings lower (set slots i s')) ≤ 1
one_changed i lower [] s' w d a = omega arith
one_changed zero lower (s ∷ slots) s' w d a =
    one_here lower s' s slots (and_parts (well_slot s) (all well_slot slots) w).1 (distinct_tail (unpack s) (map unpack slots) d) a
one_changed (suc i) lower (s ∷ slots) s' w d a =
    rw (judge_kept lower s p.0 (no_repeat lower (unpack s) (λ h u. (or_parts (named h (unpack s)) (in_use h (map unpack slots)) (a h u)).0)), mended_well s p.0)
    (one_changed i (unpack s ∷ lower) slots s' p.1 (distinct_tail (unpack s) (map unpack slots) d) (apart_tail lower s slots a d))
  where
    p : (well_slot s ≡ true) × (all well_slot slots ≡ true)
    p = and_parts (well_slot s) (all well_slot slots) w

-- ---- one element replaced
set_other : (ps : List Bytes) (i j : ℕ) (y : Bytes) → (j ≡ i → ⊥) → get_elem? (set ps i y) j ≡ get_elem? ps j
set_other [] i j y n = refl
set_other (p ∷ ps) zero zero y n = absurd (n refl)
set_other (p ∷ ps) zero (suc j) y n = refl
set_other (p ∷ ps) (suc i) zero y n = refl
set_other (p ∷ ps) (suc i) (suc j) y n = set_other ps i j y (λ e. n (ap suc e))

set_there : (ps : List Bytes) (i : ℕ) (y b : Bytes) → get_elem? (set ps i y) i ≡ some b → b ≡ y
set_there [] i y b e = absurd (not_there e)
set_there (p ∷ ps) zero y b e = sym (some-injective y b e)
set_there (p ∷ ps) (suc i) y b e = set_there ps i y b e

same_index : (k i : ℕ) → (k ≡ i) ⊎ (k ≡ i → ⊥)
same_index zero zero = inl refl
same_index zero (suc i) = inr (λ e. omega (arith, e))
same_index (suc k) zero = inr (λ e. omega (arith, e))
same_index (suc k) (suc i) = go (same_index k i)
  where
    go : (k ≡ i) ⊎ (k ≡ i → ⊥) → (suc k ≡ suc i) ⊎ (suc k ≡ suc i → ⊥)
    go (inl e) = inl (ap suc e)
    go (inr n) = inr (λ e. n (suc_inj e))

well_at : (ps : List Bytes) (j : ℕ) (p : Bytes) → all well_slot ps ≡ true → get_elem? ps j ≡ some p → well_slot p ≡ true
well_at [] j p w e = absurd (not_there e)
well_at (q ∷ ps) zero p w e = ap well_slot (sym (some-injective q p e)) ∙ (and_parts (well_slot q) (all well_slot ps) w).0
well_at (q ∷ ps) (suc j) p w e = well_at ps j p (and_parts (well_slot q) (all well_slot ps) w).1 e

unpack_at : (ps : List Bytes) (j : ℕ) (p : Bytes) → get_elem? ps j ≡ some p → get_elem? (map unpack ps) j ≡ some (unpack p)
unpack_at [] j p e = absurd (not_there e)
unpack_at (q ∷ ps) zero p e = ap {B = Option Slot} (λ (x : Bytes). some (unpack x)) (some-injective q p e)
unpack_at (q ∷ ps) (suc j) p e = unpack_at ps j p e

-- ---- on the bytes
each_set : (ps : List Bytes) (i : ℕ) (y : Bytes) → Each 4288 ps → length y ≡ 4288 → Each 4288 (set ps i y)
each_set [] i y e l = tt
each_set (p ∷ ps) zero y e l = (l, e.1)
each_set (p ∷ ps) (suc i) y e l = (e.0, each_set ps i y e.1 l)

module _ (table : Bytes) (i : ℕ) (s : Bytes) (whole : whole_slots table ≡ true) (long : length s ≡ 4288) where
  abbrev worn : Bytes
  worn = joined (set (slot_bytes table) i s)

  pub worn_length : length worn ≡ length table
  unfolding slot_bytes
  worn_length =
      length_each 4288 (set (slot_bytes table) i s) (each_set (slot_bytes table) i s (cut table whole) long)
      ∙ rw (length-set (slot_bytes table) i s, length_pieces 4288 (slot_count table) table) (sym (size table whole))

  worn_slots : slot_bytes worn ≡ set (slot_bytes table) i s
  worn_slots = slots_joined (set (slot_bytes table) i s) (each_set (slot_bytes table) i s (cut table whole) long)

  worn_whole : whole_slots worn ≡ true
  unfolding whole_slots
  worn_whole = rw worn_length whole

  pub one_slot : well_table table ≡ true → (report : Bytes) → slot_count table ≤ length report → (salvage worn report).number ≤ 1
  unfolding findings_of
  one_slot well report room =
      rw (not_refused worn worn_whole report (rw worn_length room), worn_slots)
      (one_changed i [] (slot_bytes table) s (formed table whole well).0 (formed table whole well).1 (λ h u. absurd (false≢true u)))

  -- a slot that is cleared, though it stayed as it was, has the handle of the one that has not
  module _ (well : well_table table ≡ true) (j : ℕ) (was is : Bytes) (n : j ≡ i → ⊥) (at : get_elem? (slot_bytes table) j ≡ some was) where
    by_index : (h : Bytes) (f : Entry) (k : ℕ) → unpack was ≡ taken h f → k < j → TakenAt (slot_bytes worn) k h → (k ≡ i) ⊎ (k ≡ i → ⊥) → Beside i s j was (zeros slot_size)
    by_index h f k u l t (inl e) =
        let b : t.bytes ≡ s = set_there (slot_bytes table) i s t.bytes (sym (ap (λ (ps : List Bytes). get_elem? ps i) worn_slots) ∙ ap (λ (x : ℕ). get_elem? (slot_bytes worn) x) (sym e) ∙ t.there) in
        gives_way h t.entry f (rw (← e) l) (rw (← b) t.well) (rw (← b) t.under) u
    by_index h f k u l t (inr d) =
        let b : get_elem? (slot_bytes table) k ≡ some t.bytes = sym (set_other (slot_bytes table) i k s d) ∙ sym (ap (λ (ps : List Bytes). get_elem? ps k) worn_slots) ∙ t.there in
        let e : k ≡ j =
        apart (map unpack (slot_bytes table)) (formed table whole well).1 k j h t.entry f (unpack_at (slot_bytes table) k t.bytes b ∙ ap {B = Option Slot} some t.under)
        (unpack_at (slot_bytes table) j was at ∙ ap {B = Option Slot} some u) in
        absurd (omega (arith, e, l))

    by_finding : {g : Finding} → Finds (slot_bytes worn) j was g → Beside i s j was (left_by g was)
    by_finding (is_damaged w) = absurd (true≢false (sym (well_at (slot_bytes table) j was (formed table whole well).0 at) ∙ w))
    by_finding (is_repeated h f k w u l t) = by_index h f k u l t (same_index k i)
    by_finding (is_kept w none) = stays

  pub other_slots : well_table table ≡ true → (report : Bytes) → slot_count table ≤ length report → (j : ℕ) (was is : Bytes) → (j ≡ i → ⊥) → get_elem? (slot_bytes table) j ≡ some was
      → get_elem? (slot_bytes (salvage worn report).table) j ≡ some is → Beside i s j was is
  other_slots well report room j was is n at left =
      let o = (salvages worn worn_whole report (rw worn_length room)).slots j was (ap (λ (ps : List Bytes). get_elem? ps j) worn_slots ∙ set_other (slot_bytes table) i j s n ∙ at) in
      let e : left_by o.finding was ≡ is = some-injective _ is (sym o.left ∙ left) in
      rw e at (by_finding well j was is n at o.finds)
