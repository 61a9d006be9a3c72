-- The laws of slots and setups hold (PROFILE 2.5, 4 and 5.1): rules said in another way than their definitions say them.
use Prim.Native.Nat.{ℕ, zero, suc, ◌+◌, ◌%◌, ◌≤◌, ◌<◌}
use mathlib.Core.Path.{◌≡◌, refl, sym, ap, ◌∙◌, subst}
use mathlib.Core.List.{List, [], ◌∷◌}
use mathlib.Core.Option.{Option, none, some, some-injective}
use mathlib.Core.Bool.{Bool, true, false, not, ◌||◌, true≢false, false≢true}
use native.Mathlib.Nat.{suc_inj}
use native.Mathlib.Omega.{arith}
use lib.Dec.{eqb}
use lib.ListN.{length, get_elem?, set}
use Rattle.std.specs.Prelude.{if◌then◌else◌}
use Rattle.profile.specs.Bytes.{Bytes, same, over}
use Rattle.profile.specs.Sizes.{reply_room}
use Rattle.profile.specs.Slot.{Right, Entry, reserved, enabled, disabled, Slot, empty, taken, in_use, distinct}
use Rattle.profile.specs.Table.{slot_count, slots_of, whole_slots, well_table}
use Rattle.profile.specs.Tally.{tally_in}
use Rattle.profile.specs.Frame.{kind_number, frame}
use Rattle.profile.specs.Request.{setup, Read, asks, refused, no_frame, read_request}
use Rattle.profile.specs.Agent.{Given, Found, absent, one, next, find, Answer, deny, done, act, first_empty_from, status_byte, reply_frame, Call, refuse, replied, obey, on_bytes, agent}
use Rattle.profile.specs.Laws.{Apart, Refuses, FoundIs, Full, SetsFirst}
use Rattle.profile.proofs.Logic.{both, and_parts, not_true, eqb_true, same_refl, split}
use Rattle.profile.proofs.Frames.{coded}
use Rattle.profile.proofs.FirstEmpty.{not_there, empty_not_taken, first_empty, first_only, none_empty}
use Rattle.profile.proofs.Numbers.{agent_103, agent_105, by_agent}
use Rattle.profile.proofs.WellFormed.{table_distinct}
use Rattle.profile.proofs.Steps.{acts}

-- ---- items of a list
handle_in : Bytes → Slot → Bytes
handle_in d empty = d
handle_in d (taken h e) = h

pub same_handle : {h k : Bytes} {e f : Entry} → Path (Option Slot) (some (taken h e)) (some (taken k f)) → h ≡ k
unfolding handle_in
same_handle {h} {k} {e} {f} p = ap (handle_in []) (some-injective (taken h e) (taken k f) p)

unfoldable pub IsEnabled : Option Slot → Type 0
IsEnabled none = ⊥
IsEnabled (some empty) = ⊥
IsEnabled (some (taken h (reserved n))) = ⊥
IsEnabled (some (taken h (enabled r))) = Unit {0}
IsEnabled (some (taken h (disabled r))) = ⊥

pub enabled_there : (s : Slot) (h : Bytes) (r : Right) → some s ≡ some (taken h (enabled r)) → IsEnabled (some s)
unfolding IsEnabled
enabled_there s h r p = subst IsEnabled (sym p) tt

right_in : Right → Slot → Right
right_in d empty = d
right_in d (taken h (reserved n)) = d
right_in d (taken h (enabled r)) = r
right_in d (taken h (disabled r)) = r

pub same_right : {h k : Bytes} {r s : Right} → Path (Option Slot) (some (taken h (enabled r))) (some (taken k (enabled s))) → r ≡ s
unfolding right_in
same_right {h} {k} {r} {s} p = ap (right_in r) (some-injective (taken h (enabled r)) (taken k (enabled s)) p)

-- ---- handles apart
in_use_at : (h : Bytes) (t : List Slot) (i : ℕ) (e : Entry) → get_elem? t i ≡ some (taken h e) → in_use h t ≡ true
in_use_at h [] i e p = absurd (not_there p)
in_use_at h (empty ∷ t) zero e p = absurd (empty_not_taken p)
in_use_at h (taken k x ∷ t) zero e p = rw (same_handle p, same_refl h)
in_use_at h (empty ∷ t) (suc i) e p = in_use_at h t i e p
in_use_at h (taken k x ∷ t) (suc i) e p = or_true (same h k) (in_use_at h t i e p)
  where
    or_true : (b : Bool) → in_use h t ≡ true → (b || in_use h t) ≡ true
    or_true true e = refl
    or_true false e = e

pub apart : (t : List Slot) → distinct t ≡ true → Apart t
apart [] d i j h e f p q = absurd (not_there p)
apart (empty ∷ t) d zero j h e f p q = absurd (empty_not_taken p)
apart (empty ∷ t) d (suc i) zero h e f p q = absurd (empty_not_taken q)
apart (empty ∷ t) d (suc i) (suc j) h e f p q = ap suc (apart t d i j h e f p q)
apart (taken k x ∷ t) d zero zero h e f p q = refl
apart (taken k x ∷ t) d zero (suc j) h e f p q = absurd (true≢false (sym (in_use_at h t j f q) ∙ rw (same_handle p) at (not_true (in_use k t) (and_parts (not (in_use k t)) (distinct t) d).0)))
apart (taken k x ∷ t) d (suc i) zero h e f p q = absurd (true≢false (sym (in_use_at h t i e p) ∙ rw (same_handle q) at (not_true (in_use k t) (and_parts (not (in_use k t)) (distinct t) d).0)))
apart (taken k x ∷ t) d (suc i) (suc j) h e f p q = ap suc (apart t (and_parts (not (in_use k t)) (distinct t) d).1 i j h e f p q)

in_use_where : (h : Bytes) (t : List Slot) → in_use h t ≡ true → (i : ℕ) × (e : Entry) × (get_elem? t i ≡ some (taken h e))
in_use_where h [] u = absurd (false≢true u)
in_use_where h (empty ∷ t) u =
    let r = in_use_where h t u in
    (suc r.0, r.1, r.2)
in_use_where h (taken k x ∷ t) u = go (in_use_where h t)
  where
    go : (in_use h t ≡ true → (i : ℕ) × (e : Entry) × (get_elem? t i ≡ some (taken h e))) → (i : ℕ) × (e : Entry) × (get_elem? (taken k x ∷ t) i ≡ some (taken h e))
    go ih = split h k
        (λ p. (0, x, ap {B = Option Slot} (λ (y : Bytes). some (taken y x)) (sym p)))
        (λ q. let r = ih (rw q at u) in (suc r.0, r.1, r.2))

-- and handles that stand apart are distinct
pub apart_distinct : (t : List Slot) → Apart t → distinct t ≡ true
apart_distinct [] a = refl
apart_distinct (s ∷ t) a = go s (apart_distinct t (λ i j h e f p q. suc_inj (a (suc i) (suc j) h e f p q))) a
  where
    go : (s : Slot) → distinct t ≡ true → Apart (s ∷ t) → distinct (s ∷ t) ≡ true
    go empty d a = d
    go (taken k x) d a = both (is_new (in_use k t) refl) d
      where
        is_new : (b : Bool) → in_use k t ≡ b → not b ≡ true
        is_new true u =
            let w = in_use_where k t u in
            absurd (omega (arith, a 0 (suc w.0) k x w.1 refl w.2))
        is_new false u = refl

-- ---- refusals
module _ (table : Bytes) (c : Call) where
  refused_number : (n : ℕ) → eqb n 0 ≡ false → Refuses table c (refuse n table c)
  refused_number n e = record { by_number = λ _. (refl, refl, refl); by_status = λ z. absurd (true≢false (sym z ∙ e)) }

  refused_status : c.tally ≡ tally_in table → (a : Answer) → Refuses table c (replied (kind_number c.request) a table c.buffer)
  unfolding over reply_frame frame
  refused_status tally (deny r) = record { by_number = λ z. absurd (true≢false z); by_status = λ _ _. (ap (λ (s : ℕ). over ((32 + kind_number c.request) ∷ s ∷ 0 ∷ 0 ∷ []) c.buffer) (sym (coded r).low), refl, sym tally) }
  refused_status tally (done g u) = record { by_number = λ z. absurd (true≢false z); by_status = λ _ z. absurd (true≢false (sym (eqb_true (status_byte (done g u) % 128) 0 (omega arith)) ∙ z)) }

  pub refuses : Refuses table c (agent table c)
  refuses = by_agent table c (Refuses table c) refused_number (λ _ _ tally free _. obeyed tally (read_request c.request) free)
    where
      obeyed : c.tally ≡ tally_in table → (r : Read) (free : ℕ) → Refuses table c (on_bytes (kind_number c.request) (obey r free (slots_of table)) table c)
      obeyed tally (asks q) free = refused_status tally (act free (slots_of table) q)
      obeyed tally (refused r) free = refused_status tally (deny r)
      obeyed tally no_frame free = refused_number 104 refl

  pub outside_105 : reply_room ≤ length c.buffer → whole_slots table ≡ true → slot_count table ≤ c.start → agent table c ≡ refuse 105 table c
  outside_105 = agent_105 table c

  pub twice_103 : reply_room ≤ length c.buffer → whole_slots table ≡ true → c.start < slot_count table → (Apart (slots_of table) → ⊥) → agent table c ≡ refuse 103 table c
  twice_103 long whole inside twice = agent_103 table c long whole inside (ill (well_table table) refl)
    where
      ill : (b : Bool) → well_table table ≡ b → well_table table ≡ false
      ill true well = absurd (twice (apart (slots_of table) (table_distinct table whole well)))
      ill false well = well

-- ---- looking up
next_is : (h : Bytes) (s : Slot) (t : List Slot) (x : Found) → ((e : Entry) → some s ≡ some (taken h e) → ⊥) → FoundIs h t x → FoundIs h (s ∷ t) (next x)
next_is h s t absent n p = λ i. nowhere i
  where
    nowhere : (i : ℕ) (e : Entry) → get_elem? (s ∷ t) i ≡ some (taken h e) → ⊥
    nowhere zero e q = n e q
    nowhere (suc i) e q = p i e q
next_is h s t (one i e) n p = p

pub found_is : (h : Bytes) (t : List Slot) → FoundIs h t (find h t)
found_is h [] = λ i e p. not_there p
found_is h (empty ∷ t) = next_is h empty t (find h t) (λ e p. empty_not_taken p) (found_is h t)
found_is h (taken k x ∷ t) = go (found_is h t)
  where
    go : FoundIs h t (find h t) → FoundIs h (taken k x ∷ t) (if same h k then one 0 x else next (find h t))
    go ih = split h k
        (λ p. rw (p, same_refl k) refl)
        (λ p. rw p (next_is h (taken k x) t (find h t) (λ e q. absurd (true≢false (sym (same_refl h) ∙ ap (same h) (sym (same_handle q)) ∙ p))) ih))

-- ---- the slot that a setup takes
-- no other slot meets the law
pub sets_only : (start : ℕ) (t : List Slot) (h : Bytes) (n : ℕ) (u : List Slot) → start < length t → SetsFirst start t h n u → u ≡ set t (first_empty_from start t) (taken h (reserved n))
sets_only start t h n u inside s = s.after ∙ ap (λ (i : ℕ). set t i (taken h (reserved n))) (first_only start t inside s.free s.first)

pub sets_first : (start : ℕ) (t : List Slot) (h : Bytes) (n : ℕ) (g : Given) (u : List Slot) → start < length t → act (first_empty_from start t) t (setup h n) ≡ done g u → SetsFirst start t h n u
sets_first start t h n g u inside e =
    let d = rw e at (acts (first_empty_from start t) t (setup h n)) in
    let some : Full t → ⊥ = λ full. omega (arith, d.room, (none_empty start t inside).1 full) in
    record { free = first_empty_from start t; first = first_empty start t inside some; after = d.after }
