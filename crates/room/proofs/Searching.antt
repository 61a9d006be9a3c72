-- The first empty one of some slots, and of a table's slots from a start round. Assumes nothing.
use Prim.Native.Nat.{ℕ, zero, suc, ◌+◌, ◌≤◌, ◌<◌}
use mathlib.Core.Path.{◌≡◌, refl, sym, ap, ◌∙◌}
use mathlib.Core.List.{List, [], ◌∷◌, map}
use native.Mathlib.Omega.{arith}
use mathlib.Core.Bool.{Bool, true, false}
use borrow.Author.Tests.{ne_eqb, lt-ltb, le-ltb, ltb-true, ltb-false}
use lib.Dec.{eqb, ltb}
use lib.ListN.{length, take, drop, length-map, length-take, length-drop}
use Rattle.std.specs.Prelude.{Option, Some, None, cond, MatchOption, if◌then◌else◌}
use Rattle.std.specs.List.{position_or_len, position}
use Rattle.std.proofs.lemmas.List.{drop-map, take-map}
use Rattle.profile.specs.Bytes.{Bytes}
use Rattle.profile.specs.Slot.{Slot, empty, taken}
use Rattle.profile.specs.Table.{place_of, unpack, slot_count, slot_bytes, slots_of}
use Rattle.profile.specs.Agent.{lowest_empty, first_empty_from}
use Rattle.slots.proofs.Unpacking.{unpack_empty, unpack_taken}
use Rattle.tables.proofs.SlotParts.{length_bytes}

-- does a slot's place say that it is empty?
abbrev pub blank : Bytes → Bool
blank s = eqb (place_of s) 0

lowest_place : (ss : List Bytes) → position_or_len blank ss ≡ lowest_empty (map unpack ss)
lowest_place [] = refl
lowest_place (s ∷ ss) = go (place_of s) refl (lowest_place ss)
  where
    go : (p : ℕ) → place_of s ≡ p → position_or_len blank ss ≡ lowest_empty (map unpack ss) → position_or_len blank (s ∷ ss) ≡ lowest_empty (map unpack (s ∷ ss))
    go zero at ih = rw (at, unpack_empty s at)
    go (suc p) at ih = let t = unpack_taken s (λ z. omega (arith, z, at)) in rw (ne_eqb (place_of s) 0 (λ z. omega (arith, z, at)), t.1, ih) (omega arith)

-- what is found of some slots, by the profile's lowest empty one
abbrev pub IsLowest : List Slot → ℕ → Option ℕ → Type 0
IsLowest t n r = MatchOption r (lowest_empty t ≡ n) (λ k. (k ≡ lowest_empty t) × (k < n))

lowest_most : (t : List Slot) → lowest_empty t ≤ length t
lowest_most [] = omega arith
lowest_most (empty ∷ t) = omega arith
lowest_most (taken h e ∷ t) = omega (arith, lowest_most t)

is_lowest : (t : List Slot) → IsLowest t (length t) (cond (ltb (lowest_empty t) (length t)) (Some (lowest_empty t)) None)
is_lowest t = go (ltb (lowest_empty t) (length t)) refl
  where
    go : (b : Bool) → ltb (lowest_empty t) (length t) ≡ b → IsLowest t (length t) (cond b (Some (lowest_empty t)) None)
    go true q = (refl, ltb-true _ _ q)
    go false q = omega (arith, lowest_most t, ltb-false _ _ q)

pub lowest_is : (ss : List Bytes) (r : Option ℕ) → r ≡ position blank ss → IsLowest (map unpack ss) (length ss) r
lowest_is ss r e = rw (e, lowest_place ss, ← length-map ss unpack) (is_lowest (map unpack ss))

-- what is found from a start round, by the profile's first empty one
abbrev pub IsFirst : ℕ → List Slot → ℕ → Option ℕ → Type 0
IsFirst start t n r = MatchOption r (first_empty_from start t ≡ n) (λ i. (i ≡ first_empty_from start t) × (i < n))

-- ---- from a start on, and then from slot 0
module _ (t : List Slot) (start : ℕ) (inside : start < length t) where
  pub from_start : (k : ℕ) → k ≡ lowest_empty (drop start t) → k < length (drop start t) → IsFirst start t (length t) (Some (start + k))
  unfolding first_empty_from
  from_start k e h =
      let below : start + lowest_empty (drop start t) < length t = omega (arith, e, h, length-drop start t) in
      rw (lt-ltb _ _ below) (omega (arith, e), omega (arith, e, below))

  pub from_zero : lowest_empty (drop start t) ≡ length (drop start t) → (r : Option ℕ) → IsLowest (take start t) (length (take start t)) r
      → IsFirst start t (length t) r
  unfolding first_empty_from
  from_zero e r l = rw (le-ltb (start + lowest_empty (drop start t)) (length t) (omega (arith, e, length-drop start t))) (go r l)
    where
      go : (r : Option ℕ) → IsLowest (take start t) (length (take start t)) r
          → MatchOption r ((if ltb (lowest_empty (take start t)) start then lowest_empty (take start t) else length t) ≡ length t) (λ i. (i ≡ (if ltb (lowest_empty (take start t)) start then lowest_empty (take start t) else length t)) × (i < length t))
      go None l = rw (le-ltb (lowest_empty (take start t)) start (omega (arith, l, length-take start t)))
      go (Some k) l = rw (lt-ltb (lowest_empty (take start t)) start (omega (arith, l.0, l.1, length-take start t))) (l.0, omega (arith, l.1, inside, length-take start t))

-- ---- the same of a table's bytes, cut into its slots, of which the first stand before the start
module _ (t : Bytes) (start : ℕ) (inside : start < slot_count t) (ss : List Bytes) (cut : ss ≡ slot_bytes t)
    (before from : List Bytes) (b : before ≡ take start ss) (f : from ≡ drop start ss) where
  counted : length (map unpack ss) ≡ slot_count t
  counted = length-map ss unpack ∙ ap (λ (l : List Bytes). length l) cut ∙ length_bytes t

  within : start < length (map unpack ss)
  within = rw counted inside

  ahead : map unpack from ≡ drop start (map unpack ss)
  ahead = ap (map unpack) f ∙ sym (drop-map unpack start ss)

  behind : map unpack before ≡ take start (map unpack ss)
  behind = ap (map unpack) b ∙ sym (take-map unpack start ss)

  unpacked : map unpack ss ≡ slots_of t
  unfolding slots_of
  unpacked = ap (map unpack) cut

  pub goes_on : (k : ℕ) → k ≡ lowest_empty (map unpack from) → k < length from → IsFirst start (slots_of t) (slot_count t) (Some (start + k))
  goes_on k e h = rw (counted, unpacked) at
      (from_start (map unpack ss) start within k (e ∙ ap lowest_empty ahead) (rw (← ahead, length-map from unpack) h))

  pub goes_round : lowest_empty (map unpack from) ≡ length from → (r : Option ℕ) → IsLowest (map unpack before) (length before) r
      → IsFirst start (slots_of t) (slot_count t) r
  goes_round e r l = rw (counted, unpacked) at
      (from_zero (map unpack ss) start within (rw (← ahead, length-map from unpack) e) r (rw (← behind, length-map before unpack) l))
