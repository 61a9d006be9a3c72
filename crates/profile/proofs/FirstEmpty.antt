-- PROFILE 5.1: the search for an empty slot from a start finds the first one on its way, and none where every slot is taken.
use Prim.Native.Nat.{ℕ, zero, suc, ◌+◌, ◌-◌, ◌≤◌, ◌<◌}
use mathlib.Core.Path.{◌≡◌, refl, sym, ap, ◌∙◌, subst}
use mathlib.Core.Logic.{◌↔◌}
use mathlib.Core.List.{List, [], ◌∷◌}
use mathlib.Core.Option.{Option, none, some, some-injective}
use mathlib.Core.Bool.{Bool, true, false}
use native.Mathlib.Omega.{arith}
use lib.Dec.{ltb, lt→ltb}
use lib.ListN.{length, take, drop, get_elem?, length-take, length-drop}
use Rattle.profile.specs.Bytes.{Bytes}
use Rattle.profile.specs.Slot.{Entry, Slot, empty, taken}
use Rattle.profile.specs.Agent.{lowest_empty, first_empty_from}
use Rattle.profile.specs.Laws.{onward, Full, FirstEmpty}
use Rattle.profile.proofs.Logic.{if_cases, ltb_lt, ltb_over, ltb_false, T→eq}
use Rattle.profile.proofs.Lookup.{EmptyAt, here, there, Free}

-- ---- items of a list
pub not_there : {A : Type 0} {x : A} → Path (Option A) none (some x) → ⊥
not_there {A} e = subst Some (sym e) tt
  where
    Some : Option A → Type 0
    Some none = ⊥
    Some (some x) = Unit {0}

IsTaken : Option Slot → Type 0
IsTaken none = ⊥
IsTaken (some empty) = ⊥
IsTaken (some (taken h e)) = Unit {0}

pub empty_not_taken : {h : Bytes} {e : Entry} → Path (Option Slot) (some empty) (some (taken h e)) → ⊥
unfolding IsTaken
empty_not_taken p = subst IsTaken (sym p) tt

-- slot i is empty
abbrev Empty : List Slot → ℕ → Type 0
Empty t i = get_elem? t i ≡ some empty

empty_within : (t : List Slot) (i : ℕ) → Empty t i → i < length t
empty_within [] i p = absurd (not_there p)
empty_within (s ∷ t) zero p = omega arith
empty_within (s ∷ t) (suc i) p = omega (arith, empty_within t i p)

pub empty_at : (t : List Slot) (i : ℕ) → Empty t i → EmptyAt t i
empty_at [] i e = absurd (not_there e)
empty_at (s ∷ t) zero e = rw (some-injective s empty e) here
empty_at (s ∷ t) (suc i) e = there (empty_at t i e)

-- behind the first n slots, and among them
pub at_drop : (n : ℕ) (t : List Slot) (i : ℕ) → get_elem? (drop n t) i ≡ get_elem? t (n + i)
at_drop zero t i = ap (get_elem? t) (omega arith)
at_drop (suc n) [] i = refl
at_drop (suc n) (s ∷ t) i = at_drop n t i ∙ ap (get_elem? (s ∷ t)) {x = suc (n + i)} {y = suc n + i} (omega arith)

at_take : (n : ℕ) (t : List Slot) (i : ℕ) → i < n → get_elem? (take n t) i ≡ get_elem? t i
at_take zero t i h = absurd (omega (arith, h))
at_take (suc n) [] i h = refl
at_take (suc n) (s ∷ t) zero h = refl
at_take (suc n) (s ∷ t) (suc i) h = at_take n t i (omega (arith, h))

-- ---- the lowest empty slot
lowest_none : (t : List Slot) (i : ℕ) → i < lowest_empty t → Empty t i → ⊥
lowest_none [] i h p = omega (arith, h)
lowest_none (empty ∷ t) i h p = omega (arith, h)
lowest_none (taken k e ∷ t) zero h p = empty_not_taken (sym p)
lowest_none (taken k e ∷ t) (suc i) h p = lowest_none t i (omega (arith, h)) p

lowest_there : (t : List Slot) → lowest_empty t < length t → Empty t (lowest_empty t)
lowest_there [] h = absurd (omega (arith, h))
lowest_there (empty ∷ t) h = refl
lowest_there (taken k e ∷ t) h = lowest_there t (omega (arith, h))

lowest_most : (t : List Slot) → lowest_empty t ≤ length t
lowest_most [] = omega arith
lowest_most (empty ∷ t) = omega arith
lowest_most (taken k e ∷ t) = omega (arith, lowest_most t)

-- ---- where a search from the start ends: at or above the start, below it, or nowhere
data Ends (start : ℕ) (t : List Slot) (i : ℕ) : Type 0 where
  above : start ≤ i → i < length t → Empty t i → ((j : ℕ) → start ≤ j → j < i → Empty t j → ⊥) → Ends start t i
  below : i < start → Empty t i → ((j : ℕ) → start ≤ j → Empty t j → ⊥) → ((j : ℕ) → j < i → Empty t j → ⊥) → Ends start t i
  nowhere : i ≡ length t → Full t → Ends start t i

module _ (start : ℕ) (t : List Slot) (inside : start < length t) where
  abbrev up : ℕ
  up = lowest_empty (drop start t)

  -- from slot j on, j at or above the start
  from_start : (j : ℕ) → start ≤ j → get_elem? (drop start t) (j - start) ≡ get_elem? t j
  from_start j h = at_drop start t (j - start) ∙ ap (get_elem? t) (omega (arith, h))

  none_up : (j : ℕ) → start ≤ j → j < start + up → Empty t j → ⊥
  none_up j h k p = lowest_none (drop start t) (j - start) (omega (arith, h, k)) (from_start j h ∙ p)

  none_to_the_last : length t ≤ start + up → (j : ℕ) → start ≤ j → Empty t j → ⊥
  none_to_the_last e j h p = none_up j h (omega (arith, e, empty_within t j p)) p

  abbrev low : ℕ
  low = lowest_empty (take start t)

  none_low : (j : ℕ) → j < low → j < start → Empty t j → ⊥
  none_low j h k p = lowest_none (take start t) j h (at_take start t j k ∙ p)

  first_length : length (take start t) ≡ start
  first_length = length-take start t ∙ omega (arith, inside)

  ends : Ends start t (first_empty_from start t)
  unfolding first_empty_from
  ends =
      if_cases (Ends start t) (ltb (start + up) (length t))
      (λ e. let h = ltb_lt (start + up) (length t) e in
      above (omega arith) h
      (sym (at_drop start t up) ∙ lowest_there (drop start t) (omega (arith, h, length-drop start t)))
      (λ j a b. none_up j a b))
      (λ e. let past = none_to_the_last (ltb_over (start + up) (length t) e) in
      if_cases (Ends start t) (ltb low start)
      (λ f. let h = ltb_lt low start f in
      below h (sym (at_take start t low h) ∙ lowest_there (take start t) (omega (arith, h, first_length))) past
      (λ j a. none_low j a (omega (arith, a, h))))
      (λ f. nowhere refl (λ j p. if_start past (ltb_over low start f) j p)))
    where
      if_start : ((j : ℕ) → start ≤ j → Empty t j → ⊥) → start ≤ low → (j : ℕ) → Empty t j → ⊥
      if_start past full j p = go (ltb j start) refl
        where
          go : (b : Bool) → ltb j start ≡ b → ⊥
          go true e = none_low j (omega (arith, full, ltb_lt j start e)) (ltb_lt j start e) p
          go false e = past j (ltb_over j start e) p

-- ---- the way from the start, step by step
pub onward_up : (n start k : ℕ) → start + k < n → onward n start k ≡ start + k
onward_up n start k h = rw (T→eq (ltb (start + k) n) (lt→ltb (start + k) n h))

pub onward_round : (n start k : ℕ) → n ≤ start + k → onward n start k ≡ start + k - n
onward_round n start k h = rw (ltb_false (start + k) n h)

-- a fact of the slot k steps on: of one not past the last slot, and of one past it
by_step : (P : ℕ → Type 0) (n start k : ℕ) → (start + k < n → P (start + k)) → (n ≤ start + k → P (start + k - n)) → P (onward n start k)
by_step P n start k up round = if_cases P (ltb (start + k) n) (λ e. up (ltb_lt (start + k) n e)) (λ e. round (ltb_over (start + k) n e))

pub onward_below : (n start k : ℕ) → start < n → k < n → onward n start k < n
onward_below n start k p q = by_step (λ (i : ℕ). i < n) n start k (λ h. h) (λ h. omega (arith, p, q, h))

module _ (start : ℕ) (t : List Slot) (inside : start < length t) where
  abbrev n : ℕ
  n = length t

  first_of : (i : ℕ) → Ends start t i → (Full t → ⊥) → FirstEmpty start t i
  first_of i (above h l p unmet) room =
      record {
        steps = i - start;
        within = omega (arith, h, l);
        reached = sym (onward_up n start (i - start) (omega (arith, h, l)) ∙ omega (arith, h));
        is_empty = p;
        none_before = λ k b. by_step (λ (j : ℕ). Empty t j → ⊥) n start k
            (λ _. unmet (start + k) (omega arith) (omega (arith, b)))
            (λ c. absurd (omega (arith, b, c, l)));
      }
  first_of i (below l p past unmet) room =
      record {
        steps = n - start + i;
        within = omega (arith, inside, l);
        reached = sym (onward_round n start (n - start + i) (omega (arith, inside)) ∙ omega (arith, inside));
        is_empty = p;
        none_before = λ k b. by_step (λ (j : ℕ). Empty t j → ⊥) n start k
            (λ _. past (start + k) (omega arith))
            (λ c. unmet (start + k - n) (omega (arith, b, c, inside)));
      }
  first_of i (nowhere e full) room = absurd (room full)

  pub first_empty : (Full t → ⊥) → FirstEmpty start t (first_empty_from start t)
  first_empty = first_of (first_empty_from start t) (ends start t inside)

  -- no other slot meets the law: of two that do, neither is reached before the other
  one_first : (i j : ℕ) → FirstEmpty start t i → FirstEmpty start t j → i ≡ j
  one_first i j a b = a.reached ∙ ap (onward n start) steps_same ∙ sym b.reached
    where
      not_sooner : (x y : ℕ) (c : FirstEmpty start t x) (d : FirstEmpty start t y) → c.steps < d.steps → ⊥
      not_sooner x y c d h = d.none_before c.steps h (ap (get_elem? t) (sym c.reached) ∙ c.is_empty)

      steps_same : a.steps ≡ b.steps
      steps_same = go (ltb a.steps b.steps) (ltb b.steps a.steps) refl refl
        where
          go : (x y : Bool) → ltb a.steps b.steps ≡ x → ltb b.steps a.steps ≡ y → a.steps ≡ b.steps
          go true y p q = absurd (not_sooner i j a b (ltb_lt a.steps b.steps p))
          go false true p q = absurd (not_sooner j i b a (ltb_lt b.steps a.steps q))
          go false false p q = omega (arith, ltb_over a.steps b.steps p, ltb_over b.steps a.steps q)

  pub first_only : (i : ℕ) → FirstEmpty start t i → i ≡ first_empty_from start t
  first_only i f = one_first i (first_empty_from start t) f (first_empty (λ full. full i f.is_empty))

  -- there is none exactly where every slot is taken
  ends_full : (i : ℕ) → Ends start t i → i ≡ length t → Full t
  ends_full i (above h l p unmet) e = absurd (omega (arith, l, e))
  ends_full i (below l p past unmet) e = absurd (omega (arith, l, e, inside))
  ends_full i (nowhere e full) _ = full

  full_ends : (i : ℕ) → Ends start t i → Full t → i ≡ length t
  full_ends i (above h l p unmet) full = absurd (full i p)
  full_ends i (below l p past unmet) full = absurd (full i p)
  full_ends i (nowhere e _) full = e

  pub none_empty : (first_empty_from start t ≡ length t) ↔ Full t
  none_empty = (ends_full (first_empty_from start t) (ends start t inside), full_ends (first_empty_from start t) (ends start t inside))

  ends_most : (i : ℕ) → Ends start t i → i ≤ length t
  ends_most i (above h l p unmet) = omega (arith, l)
  ends_most i (below l p past unmet) = omega (arith, l, inside)
  ends_most i (nowhere e _) = omega (arith, e)

  pub first_most : first_empty_from start t ≤ length t
  first_most = ends_most (first_empty_from start t) (ends start t inside)

  pub first_free : Free (first_empty_from start t) t
  first_free h = empty_at t (first_empty_from start t) (first_empty (λ full. omega (arith, h, none_empty.1 full))).is_empty

-- the way from the start has every slot on it: where none on it is empty, every slot is taken
module _ (start : ℕ) (t : List Slot) (inside : start < length t) where
  pub all_seen : ((k : ℕ) → k < length t → Empty t (onward (length t) start k) → ⊥) → Full t
  all_seen unmet i p = go (ltb i start) refl
    where
      l : i < length t
      l = empty_within t i p

      go : (b : Bool) → ltb i start ≡ b → ⊥
      go true e =
          let below = ltb_lt i start e in
          let round : onward (length t) start (length t - start + i) ≡ i = onward_round (length t) start (length t - start + i) (omega (arith, inside)) ∙ omega (arith, inside) in
          unmet (length t - start + i) (omega (arith, below, inside)) (ap (get_elem? t) round ∙ p)
      go false e =
          let above = ltb_over i start e in
          let up : onward (length t) start (i - start) ≡ i = onward_up (length t) start (i - start) (omega (arith, above, l)) ∙ omega (arith, above) in
          unmet (i - start) (omega (arith, above, l)) (ap (get_elem? t) up ∙ p)

-- with any two starts alike
pub none_alike : (a b : ℕ) (t : List Slot) → a < length t → b < length t → (first_empty_from a t ≡ length t) ↔ (first_empty_from b t ≡ length t)
none_alike a b t p q = (λ e. (none_empty b t q).1 ((none_empty a t p).0 e), λ e. (none_empty a t p).1 ((none_empty b t q).0 e))

-- from slot 0 it is the lowest
pub from_0 : (t : List Slot) → first_empty_from 0 t ≡ lowest_empty t
unfolding first_empty_from
from_0 t = if_cases (λ (i : ℕ). i ≡ lowest_empty t) (ltb (0 + lowest_empty t) (length t)) (λ _. omega arith) (λ e. omega (arith, lowest_most t, ltb_over (0 + lowest_empty t) (length t) e))
