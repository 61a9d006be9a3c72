-- PROFILE 2.10: what a salvage finds of each slot, and what it leaves.
use Prim.Native.Nat.{ℕ, zero, suc, ◌*◌, ◌/◌, ◌≤◌, ◌<◌}
use mathlib.Core.Path.{◌≡◌, refl, sym, ap, ap₂, ◌∙◌}
use mathlib.Core.Logic.{◌⊎◌, inl, inr}
use mathlib.Core.List.{List, [], ◌∷◌, ◌++◌, map}
use mathlib.Core.Option.{Option, some, some-injective}
use mathlib.Core.Bool.{Bool, true, false, ◌||◌, not, true≢false, false≢true}
use native.Mathlib.Omega.{arith}
use native.Mathlib.Nat.{not-suc-le-zero, le_of_suc-le-suc}
use lib.Dec.{ltb}
use lib.ListN.{length, get_elem?, drop, replicate, length-map, length-append, length-drop}
use lib.Seq.{drop_at, take_all}
use Rattle.profile.specs.Bytes.{Bytes, zeros, over, all, joined, Each}
use Rattle.profile.specs.Slot.{Entry, Slot, empty, taken, named, in_use, distinct}
use Rattle.profile.specs.Table.{unpack, pack, well_slot, slot_count, slot_bytes, slots_of, whole_slots, well_table}
use Rattle.profile.specs.Salvage.{Finding, kept, damaged, repeated, finding_byte, mended, repeats, judge, findings, left_by, left_slots, cleared, findings_of, left_of, report_of, Salvaged, salvage}
use Rattle.profile.specs.Salvages.{TakenAt, Finds, is_damaged, is_repeated, is_kept, SlotSalvaged, Salvages}
use Rattle.profile.proofs.Logic.{both, and_parts, or_parts, or_true, not_true, not_false, if_cases, if_else, same_refl, same_eq, split, ltb_false}
use Rattle.profile.proofs.Strings.{length_zeros, length_each, length_pieces, joined_pieces}
use Rattle.profile.proofs.Pack.{unpack_pack, well_pack}
use Rattle.profile.proofs.WholeSlots.{slots_joined, size, cut, at_most_15}
use Rattle.profile.proofs.FirstEmpty.{not_there}

-- ---- a slot of zeros
pub unpack_zeros : unpack (zeros 4288) ≡ empty
unfolding pack
unpack_zeros = unpack_pack empty tt

well_zeros : well_slot (zeros 4288) ≡ true
unfolding pack
well_zeros = well_pack empty tt

-- ---- what is found of a slot, by its tests
pub by_judge : (P : Finding → Type 0) (lower : List Slot) (s : Bytes) → (well_slot s ≡ false → P damaged)
    → (well_slot s ≡ true → repeats lower (unpack s) ≡ true → P repeated) → (well_slot s ≡ true → repeats lower (unpack s) ≡ false → P kept) → P (judge lower s)
by_judge P lower s d r k =
    if_cases P (not (well_slot s)) (λ e. d (not_true (well_slot s) e))
    (λ e. if_cases P (repeats lower (unpack s)) (λ t. r (not_false (well_slot s) e) t) (λ t. k (not_false (well_slot s) e) t))

pub mended_well : (s : Bytes) → well_slot s ≡ true → mended s ≡ unpack s
mended_well s w = rw w

pub mended_not : (s : Bytes) → well_slot s ≡ false → mended s ≡ empty
mended_not s w = rw w

-- what the slots of a list hold after the salvage, with the lower ones given
abbrev left_in : List Slot → List Bytes → List Bytes
left_in lower slots = left_slots (findings lower slots) slots

-- ---- the table left is well formed
pub length_left : (f : Finding) (s : Bytes) → length s ≡ 4288 → length (left_by f s) ≡ 4288
length_left kept s e = e
length_left damaged s e = length_zeros 4288
length_left repeated s e = length_zeros 4288

pub each_left : (fs : List Finding) (slots : List Bytes) → Each 4288 slots → Each 4288 (left_slots fs slots)
each_left [] slots e = tt
each_left (f ∷ fs) [] e = tt
each_left (f ∷ fs) (s ∷ slots) e = (length_left f s e.0, each_left fs slots e.1)

pub length_findings : (lower : List Slot) (slots : List Bytes) → length (findings lower slots) ≡ length slots
length_findings lower [] = refl
length_findings lower (s ∷ slots) = ap suc (length_findings (mended s ∷ lower) slots)

pub length_left_slots : (fs : List Finding) (slots : List Bytes) → length fs ≡ length slots → length (left_slots fs slots) ≡ length slots
length_left_slots [] slots e = e
length_left_slots (f ∷ fs) [] e = refl
length_left_slots (f ∷ fs) (s ∷ slots) e = ap suc (length_left_slots fs slots (omega (arith, e)))

left_well : (lower : List Slot) (slots : List Bytes) → all well_slot (left_in lower slots) ≡ true
left_well lower [] = refl
left_well lower (s ∷ slots) =
    both (by_judge (λ f. well_slot (left_by f s) ≡ true) lower s (λ e. well_zeros) (λ e t. well_zeros) (λ e t. e)) (left_well (mended s ∷ lower) slots)

-- a handle that a lower slot has is that of no slot left
named_kept : (h : Bytes) (lower : List Slot) (s : Slot) → in_use h lower ≡ true → repeats lower s ≡ false → named h s ≡ false
named_kept h lower empty u r = refl
named_kept h lower (taken k e) u r = split h k (λ q. absurd (true≢false (sym u ∙ ap (λ (x : Bytes). in_use x lower) q ∙ r))) (λ q. q)

left_fresh : (h : Bytes) (lower : List Slot) (slots : List Bytes) → in_use h lower ≡ true → in_use h (map unpack (left_in lower slots)) ≡ false
left_fresh h lower [] u = refl
left_fresh h lower (s ∷ slots) u =
    ap₂ (λ (a b : Bool). a || b)
    (by_judge (λ f. named h (unpack (left_by f s)) ≡ false) lower s (λ e. rw unpack_zeros) (λ e t. rw unpack_zeros) (λ e t. named_kept h lower (unpack s) u t))
    (left_fresh h (mended s ∷ lower) slots (rw u (or_true (named h (mended s)))))

distinct_cons : (s : Slot) (t : List Slot) → ((h : Bytes) → named h s ≡ true → in_use h t ≡ false) → distinct t ≡ true → distinct (s ∷ t) ≡ true
distinct_cons empty t f d = d
distinct_cons (taken h e) t f d = both (ap not (f h (same_refl h))) d

left_distinct : (lower : List Slot) (slots : List Bytes) → distinct (map unpack (left_in lower slots)) ≡ true
left_distinct lower [] = refl
left_distinct lower (s ∷ slots) = distinct_cons (unpack (left_by (judge lower s) s)) (map unpack (left_in (mended s ∷ lower) slots)) fresh (left_distinct (mended s ∷ lower) slots)
  where
    fresh : (h : Bytes) → named h (unpack (left_by (judge lower s) s)) ≡ true → in_use h (map unpack (left_in (mended s ∷ lower) slots)) ≡ false
    fresh h =
        by_judge (λ f. named h (unpack (left_by f s)) ≡ true → in_use h (map unpack (left_in (mended s ∷ lower) slots)) ≡ false) lower s
        (λ e n. absurd (false≢true (rw unpack_zeros at n)))
        (λ e t n. absurd (false≢true (rw unpack_zeros at n)))
        (λ e t n. left_fresh h (mended s ∷ lower) slots (rw (mended_well s e, n)))

-- ---- where nothing is damaged and no handle is repeated, every slot is kept
abbrev pub Apart : List Slot → List Bytes → Type 0
Apart lower slots = (h : Bytes) → in_use h lower ≡ true → in_use h (map unpack slots) ≡ false

-- the parts of what is asked of some slots
pub distinct_tail : (s : Slot) (t : List Slot) → distinct (s ∷ t) ≡ true → distinct t ≡ true
distinct_tail empty t d = d
distinct_tail (taken h e) t d = (and_parts (not (in_use h t)) (distinct t) d).1

pub distinct_head : (s : Slot) (t : List Slot) → distinct (s ∷ t) ≡ true → (h : Bytes) → named h s ≡ true → in_use h t ≡ false
distinct_head empty t d h n = absurd (false≢true n)
distinct_head (taken k e) t d h n = ap (λ (x : Bytes). in_use x t) (same_eq h k n) ∙ not_true (in_use k t) (and_parts (not (in_use k t)) (distinct t) d).0

pub or_cases : (a b : Bool) → (a || b) ≡ true → (a ≡ true) ⊎ (b ≡ true)
or_cases true b e = inl refl
or_cases false b e = inr e

pub apart_tail : (lower : List Slot) (s : Bytes) (slots : List Bytes) → Apart lower (s ∷ slots) → distinct (unpack s ∷ map unpack slots) ≡ true → Apart (unpack s ∷ lower) slots
apart_tail lower s slots a d h u = go (or_cases (named h (unpack s)) (in_use h lower) u)
  where
    go : (named h (unpack s) ≡ true) ⊎ (in_use h lower ≡ true) → in_use h (map unpack slots) ≡ false
    go (inl n) = distinct_head (unpack s) (map unpack slots) d h n
    go (inr n) = (or_parts (named h (unpack s)) (in_use h (map unpack slots)) (a h n)).1

pub no_repeat : (lower : List Slot) (s : Slot) → ((h : Bytes) → in_use h lower ≡ true → named h s ≡ false) → repeats lower s ≡ false
no_repeat lower empty f = refl
no_repeat lower (taken k e) f = go (in_use k lower) refl
  where
    go : (b : Bool) → in_use k lower ≡ b → b ≡ false
    go true u = absurd (true≢false (sym (same_refl k) ∙ f k u))
    go false u = refl

pub judge_kept : (lower : List Slot) (s : Bytes) → well_slot s ≡ true → repeats lower (unpack s) ≡ false → judge lower s ≡ kept
judge_kept lower s w r = rw (w, r)

pub all_kept : (lower : List Slot) (slots : List Bytes) → all well_slot slots ≡ true → distinct (map unpack slots) ≡ true → Apart lower slots → findings lower slots ≡ replicate (length slots) kept
all_kept lower [] w d a = refl
all_kept lower (s ∷ slots) w d a =
    ap₂ {C = List Finding} (λ (f : Finding) (fs : List Finding). f ∷ fs)
    (judge_kept lower s p.0 (no_repeat lower (unpack s) (λ h u. (or_parts (named h (unpack s)) (in_use h (map unpack slots)) (a h u)).0)))
    (all_kept (mended s ∷ lower) slots p.1 (distinct_tail (unpack s) (map unpack slots) d) (rw (mended_well s p.0) (apart_tail lower s slots a d)))
  where
    p : (well_slot s ≡ true) × (all well_slot slots ≡ true)
    p = and_parts (well_slot s) (all well_slot slots) w

pub left_kept : (slots : List Bytes) → left_slots (replicate (length slots) kept) slots ≡ slots
left_kept [] = refl
left_kept (s ∷ slots) = ap {B = List Bytes} (λ r. s ∷ r) (left_kept slots)

pub none_cleared : (n : ℕ) → cleared (replicate n kept) ≡ 0
none_cleared zero = refl
none_cleared (suc n) = none_cleared n

report_zeros : (n : ℕ) → map finding_byte (replicate n kept) ≡ zeros n
unfolding zeros
report_zeros zero = refl
report_zeros (suc n) = ap {B = Bytes} (λ r. 0 ∷ r) (report_zeros n)

pub few_cleared : (fs : List Finding) → cleared fs ≤ length fs
few_cleared [] = omega arith
few_cleared (kept ∷ fs) = omega (arith, few_cleared fs)
few_cleared (damaged ∷ fs) = omega (arith, few_cleared fs)
few_cleared (repeated ∷ fs) = omega (arith, few_cleared fs)

-- ---- slot by slot, by numbers
-- the lower ones of slot i, as the first step left them
abbrev pub lower_to : ℕ → List Slot → List Bytes → List Slot
lower_to zero lower slots = lower
lower_to (suc i) lower [] = lower
lower_to (suc i) lower (s ∷ slots) = lower_to i (mended s ∷ lower) slots

pub finding_at_lem : (i : ℕ) (lower : List Slot) (slots : List Bytes) (s : Bytes) → get_elem? slots i ≡ some s → get_elem? (findings lower slots) i ≡ some (judge (lower_to i lower slots) s)
finding_at_lem i lower [] s e = absurd (not_there e)
finding_at_lem zero lower (x ∷ slots) s e = ap (λ (y : Bytes). some (judge lower y)) (some-injective x s e)
finding_at_lem (suc i) lower (x ∷ slots) s e = finding_at_lem i (mended x ∷ lower) slots s e

left_at : (i : ℕ) (fs : List Finding) (slots : List Bytes) (f : Finding) (s : Bytes) → get_elem? fs i ≡ some f → get_elem? slots i ≡ some s → get_elem? (left_slots fs slots) i ≡ some (left_by f s)
left_at i [] slots f s e d = absurd (not_there e)
left_at i (g ∷ fs) [] f s e d = absurd (not_there d)
left_at zero (g ∷ fs) (x ∷ slots) f s e d =
    ap₂ {C = Option Bytes} (λ (a : Finding) (b : Bytes). some (left_by a b)) (some-injective g f e) (some-injective x s d)
left_at (suc i) (g ∷ fs) (x ∷ slots) f s e d = left_at i fs slots f s e d

byte_at : (i : ℕ) (fs : List Finding) (rest : Bytes) (f : Finding) → get_elem? fs i ≡ some f → get_elem? (map finding_byte fs ++ rest) i ≡ some (finding_byte f)
byte_at i [] rest f e = absurd (not_there e)
byte_at zero (g ∷ fs) rest f e = ap (λ (x : Finding). some (finding_byte x)) (some-injective g f e)
byte_at (suc i) (g ∷ fs) rest f e = byte_at i fs rest f e

-- a lower slot has the handle exactly where one before slot i is well formed and taken under it
lower_keeps : (i : ℕ) (lower : List Slot) (slots : List Bytes) (h : Bytes) → in_use h lower ≡ true → in_use h (lower_to i lower slots) ≡ true
lower_keeps zero lower slots h u = u
lower_keeps (suc i) lower [] h u = u
lower_keeps (suc i) lower (s ∷ slots) h u = lower_keeps i (mended s ∷ lower) slots h (rw u (or_true (named h (mended s))))

TakenBelow : ℕ → List Bytes → Bytes → Type 0
TakenBelow i slots h = (j : ℕ) × (j < i) × TakenAt slots j h

lower_in : (i j : ℕ) (lower : List Slot) (slots : List Bytes) (h : Bytes) → j < i → TakenAt slots j h → in_use h (lower_to i lower slots) ≡ true
lower_in zero j lower slots h l t = absurd (not-suc-le-zero l)
lower_in (suc i) j lower [] h l t = absurd (not_there t.there)
lower_in (suc i) zero lower (s ∷ slots) h l t =
    lower_keeps i (mended s ∷ lower) slots h
    (rw (some-injective s t.bytes t.there, mended_well t.bytes t.well, t.under, same_refl h))
lower_in (suc i) (suc j) lower (s ∷ slots) h l t =
    lower_in i j (mended s ∷ lower) slots h (le_of_suc-le-suc l) (record { bytes = t.bytes; entry = t.entry; there = t.there; well = t.well; under = t.under })

-- a slot that is taken for one under h
taken_for : (h : Bytes) (s : Bytes) → named h (mended s) ≡ true → (e : Entry) × (well_slot s ≡ true) × (unpack s ≡ taken h e)
taken_for h s = if_cases (λ (x : Slot). named h x ≡ true → (e : Entry) × (well_slot s ≡ true) × (unpack s ≡ taken h e)) (well_slot s) (λ w n. go (unpack s) refl n w) (λ w n. absurd (false≢true n))
  where
    go : (x : Slot) → unpack s ≡ x → named h x ≡ true → well_slot s ≡ true → (e : Entry) × (well_slot s ≡ true) × (unpack s ≡ taken h e)
    go empty u n w = absurd (false≢true n)
    go (taken k e) u n w = (e, w, u ∙ ap (λ (x : Bytes). taken x e) (sym (same_eq h k n)))

in_lower : (i : ℕ) (lower : List Slot) (slots : List Bytes) (h : Bytes) → in_use h (lower_to i lower slots) ≡ true → (in_use h lower ≡ true) ⊎ TakenBelow i slots h
unfolding TakenBelow
in_lower zero lower slots h u = inl u
in_lower (suc i) lower [] h u = inl u
in_lower (suc i) lower (s ∷ slots) h u = go (in_lower i (mended s ∷ lower) slots h u)
  where
    first : (named h (mended s) ≡ true) ⊎ (in_use h lower ≡ true) → (in_use h lower ≡ true) ⊎ TakenBelow (suc i) (s ∷ slots) h
    first (inl n) =
        let t = taken_for h s n in
        inr (0, omega arith, record { bytes = s; entry = t.0; there = refl; well = t.1; under = t.2 })
    first (inr n) = inl n

    go : (in_use h (mended s ∷ lower) ≡ true) ⊎ TakenBelow i slots h → (in_use h lower ≡ true) ⊎ TakenBelow (suc i) (s ∷ slots) h
    go (inl n) = first (or_cases (named h (mended s)) (in_use h lower) n)
    go (inr t) = inr (suc t.0, omega (arith, t.1), record { bytes = t.2.bytes; entry = t.2.entry; there = t.2.there; well = t.2.well; under = t.2.under })

finds : (i : ℕ) (slots : List Bytes) (s : Bytes) → Finds slots i s (judge (lower_to i [] slots) s)
unfolding TakenBelow
finds i slots s = by_judge (Finds slots i s) (lower_to i [] slots) s (λ w. is_damaged w) (λ w r. again (unpack s) refl w r) (λ w r. is_kept w (never w r))
  where
    again : (x : Slot) → unpack s ≡ x → well_slot s ≡ true → repeats (lower_to i [] slots) x ≡ true → Finds slots i s repeated
    again empty u w r = absurd (false≢true r)
    again (taken h e) u w r = below (in_lower i [] slots h r)
      where
        below : (in_use h [] ≡ true) ⊎ TakenBelow i slots h → Finds slots i s repeated
        below (inl n) = absurd (false≢true n)
        below (inr t) = is_repeated h e t.0 w u t.1 t.2

    never : well_slot s ≡ true → repeats (lower_to i [] slots) (unpack s) ≡ false → (h : Bytes) (e : Entry) (j : ℕ) → unpack s ≡ taken h e → j < i → TakenAt slots j h → ⊥
    never w r h e j u l t = true≢false (sym (lower_in i j [] slots h l t) ∙ (rw u at r))

-- ---- on the bytes
module _ (table : Bytes) (whole : whole_slots table ≡ true) where
  abbrev slots : List Bytes
  slots = slot_bytes table

  pub slots_left : slot_bytes (left_of table) ≡ left_slots (findings_of table) slots
  unfolding left_of
  slots_left = slots_joined (left_slots (findings_of table) slots) (each_left (findings_of table) slots (cut table whole))

  count_findings : length (findings_of table) ≡ slot_count table
  unfolding findings_of slot_bytes
  count_findings = length_findings [] slots ∙ length_pieces 4288 (slot_count table) table

  pub left_length : length (left_of table) ≡ length table
  unfolding left_of findings_of slot_bytes
  left_length =
      length_each 4288 (left_slots (findings_of table) slots) (each_left (findings_of table) slots (cut table whole))
      ∙ rw (length_left_slots (findings_of table) slots (length_findings [] slots), length_pieces 4288 (slot_count table) table) (sym (size table whole))

  pub left_whole : whole_slots (left_of table) ≡ true
  unfolding whole_slots
  left_whole = rw left_length whole

  pub left_table : well_table (left_of table) ≡ true
  unfolding well_table slots_of findings_of
  left_table = both (ap (all well_slot) slots_left ∙ left_well [] slots) (ap (λ (ps : List Bytes). distinct (map unpack ps)) slots_left ∙ left_distinct [] slots)

  module _ (report : Bytes) (room : slot_count table ≤ length report) where
    abbrev outcome : Salvaged
    outcome = record { number = cleared (findings_of table); table = left_of table; report = over (report_of table) report }

    pub not_refused : salvage table report ≡ outcome
    unfolding salvage
    not_refused = rw (whole, ltb_false (length report) (slot_count table) room)

    report_length : length (report_of table) ≡ slot_count table
    unfolding report_of
    report_length = length-map (findings_of table) finding_byte ∙ count_findings

    slot_salvaged : (i : ℕ) (s : Bytes) → get_elem? slots i ≡ some s → SlotSalvaged table outcome i s
    unfolding findings_of report_of over
    slot_salvaged i s e =
        let f = finding_at_lem i [] slots s e in
        record {
          finding = judge (lower_to i [] slots) s;
          finds = finds i slots s;
          reported = byte_at i (findings_of table) (drop (length (report_of table)) report) _ f;
          left = rw slots_left (left_at i (findings_of table) slots _ s f e);
        }

    left_all : Salvages table report outcome
    unfolding over
    left_all =
        record {
          whole = left_whole;
          well = left_table;
          as_many = ap (λ (n : ℕ). n / 4288) left_length;
          slots = slot_salvaged;
          few = rw (← count_findings) (few_cleared (findings_of table));
          long = length-append (report_of table) (drop (length (report_of table)) report) ∙ rw (length-drop (length (report_of table)) report, report_length) (omega arith);
          rest = drop_at (report_of table) (drop (length (report_of table)) report) (slot_count table) report_length ∙ rw report_length;
        }

    pub salvages : Salvages table report (salvage table report)
    salvages = rw not_refused left_all

  -- ---- a well-formed table
  module _ (well : well_table table ≡ true) where
    pub formed : (all well_slot slots ≡ true) × (distinct (map unpack slots) ≡ true)
    unfolding well_table slots_of
    formed = and_parts (all well_slot slots) (distinct (map unpack slots)) well

    findings_kept : findings_of table ≡ replicate (slot_count table) kept
    unfolding findings_of slot_bytes
    findings_kept = all_kept [] slots formed.0 formed.1 (λ h u. absurd (false≢true u)) ∙ ap (λ (n : ℕ). replicate n kept) (length_pieces 4288 (slot_count table) table)

    left_same : left_of table ≡ table
    unfolding left_of findings_of slot_bytes
    left_same =
        ap joined (ap (λ (fs : List Finding). left_slots fs slots) (all_kept [] slots formed.0 formed.1 (λ h u. absurd (false≢true u))) ∙ left_kept slots)
        ∙ joined_pieces 4288 (slot_count table) table
        ∙ take_all (4288 * slot_count table) table (omega (arith, size table whole))

    pub nothing_damaged : (report : Bytes) → slot_count table ≤ length report → salvage table report ≡ record { number = 0; table = table; report = over (zeros (slot_count table)) report }
    unfolding report_of
    nothing_damaged report room =
        not_refused report room
        ∙ rw (left_same, findings_kept, none_cleared (slot_count table), report_zeros (slot_count table))

pub salvaged_twice : (table report again : Bytes) → whole_slots table ≡ true → slot_count table ≤ length report → slot_count table ≤ length again
    → salvage (salvage table report).table again ≡ record { number = 0; table = (salvage table report).table; report = over (zeros (slot_count table)) again }
salvaged_twice table report again whole room room-again =
    let s = salvages table whole report room in
    let e = nothing_damaged (salvage table report).table s.whole s.well again (rw s.as_many room-again) in
    rw s.as_many at e

pub salvage_refuses : (table report : Bytes) → 15 < (salvage table report).number → ((salvage table report).table ≡ table) × ((salvage table report).report ≡ report)
unfolding salvage whole_slots
salvage_refuses table report =
    if_else Stays (not (whole_slots table)) (λ e. (refl, refl)) λ a.
    if_else Stays (ltb (length report) (slot_count table)) (λ e. (refl, refl)) λ b e.
    absurd (omega (arith, e, few_cleared (findings_of table), count_findings table (not_false (whole_slots table) a), at_most_15 table (not_false (whole_slots table) a)))
  where
    Stays : Salvaged → Type 0
    Stays o = 15 < o.number → (o.table ≡ table) × (o.report ≡ report)
