-- PROFILE 2.8: the tally of some slots number by number, with one slot changed, and with other records in the same places; when two tallies are the same.
use Prim.Native.Nat.{ℕ, zero, suc, ◌+◌}
use mathlib.Core.Path.{◌≡◌, refl, ap, ap₂}
use mathlib.Core.List.{List, [], ◌∷◌, map}
use mathlib.Core.Option.{some, some-injective}
use mathlib.Core.Bool.{Bool, true, false, ◌&&◌}
use native.Mathlib.Omega.{arith}
use lib.Dec.{eqb}
use lib.ListN.{set, get_elem?}
use Rattle.profile.specs.Slot.{reserved, enabled, disabled, Slot, empty, taken}
use Rattle.profile.specs.Tally.{Tally, tally_with, in_slot, plus, tally_of, same_tally}
use Rattle.profile.specs.Tallies.{CountsAll}
use Rattle.profile.proofs.Logic.{both, and_parts, eqb_eq, eqb_true}
use Rattle.profile.proofs.Strings.{total}
use Rattle.profile.proofs.FirstEmpty.{not_there}

-- ---- a number for each slot, added up
abbrev pub sum : (Slot → ℕ) → List Slot → ℕ
sum f t = total (map f t)

pub sum_set : (f : Slot → ℕ) (t : List Slot) (i : ℕ) (before after : Slot) → get_elem? t i ≡ some before → sum f (set t i after) + f before ≡ sum f t + f after
sum_set f [] i b a p = absurd (not_there p)
sum_set f (x ∷ t) zero b a p = rw (some-injective x b p) (omega arith)
sum_set f (x ∷ t) (suc i) b a p = omega (arith, sum_set f t i b a p)

-- each number of the tally is such a sum
pub sums : (t : List Slot) → tally_of t ≡ tally_with (sum (λ s. (in_slot s).empty) t) (sum (λ s. (in_slot s).reserved) t) (sum (λ s. (in_slot s).enabled) t) (sum (λ s. (in_slot s).disabled) t) (sum (λ s. (in_slot s).payload) t)
unfolding tally_of
sums [] = refl
sums (s ∷ t) = ap (plus (in_slot s)) (sums t)

pub counts_all : (t : List Slot) → CountsAll t
unfolding tally_of
counts_all [] = refl
counts_all (empty ∷ t) = omega (arith, counts_all t)
counts_all (taken h (reserved n) ∷ t) = omega (arith, counts_all t)
counts_all (taken h (enabled r) ∷ t) = omega (arith, counts_all t)
counts_all (taken h (disabled r) ∷ t) = omega (arith, counts_all t)

pub tally_slot : (t : List Slot) (i : ℕ) (before after : Slot) → get_elem? t i ≡ some before → plus (tally_of (set t i after)) (in_slot before) ≡ plus (tally_of t) (in_slot after)
tally_slot t i b a p = rw (sums (set t i a), sums t) λ k.
    tally_with
    (sum_set (λ s. (in_slot s).empty) t i b a p k)
    (sum_set (λ s. (in_slot s).reserved) t i b a p k)
    (sum_set (λ s. (in_slot s).enabled) t i b a p k)
    (sum_set (λ s. (in_slot s).disabled) t i b a p k)
    (sum_set (λ s. (in_slot s).payload) t i b a p k)

-- slots of which each counts for the same have the same tally
pub tally_map : {A : Type 0} (f g : A → Slot) → ((x : A) → in_slot (f x) ≡ in_slot (g x)) → (xs : List A) → tally_of (map f xs) ≡ tally_of (map g xs)
unfolding tally_of
tally_map f g e [] = refl
tally_map f g e (x ∷ xs) = ap₂ plus (e x) (tally_map f g e xs)

-- ---- the same five numbers
pub same_tally_true : (a b : Tally) → a ≡ b → same_tally a b ≡ true
same_tally_true a b e =
    rw e
    (both (both (both (both (eqb_true b.empty _ refl) (eqb_true b.reserved _ refl)) (eqb_true b.enabled _ refl)) (eqb_true b.disabled _ refl)) (eqb_true b.payload _ refl))

pub same_tally_eq : (a b : Tally) → same_tally a b ≡ true → a ≡ b
same_tally_eq a b e =
    let p = and_parts (eqb a.empty b.empty && eqb a.reserved b.reserved && eqb a.enabled b.enabled && eqb a.disabled b.disabled) (eqb a.payload b.payload) e in
    let d = and_parts (eqb a.empty b.empty && eqb a.reserved b.reserved && eqb a.enabled b.enabled) (eqb a.disabled b.disabled) p.0 in
    let u = and_parts (eqb a.empty b.empty && eqb a.reserved b.reserved) (eqb a.enabled b.enabled) d.0 in
    let r = and_parts (eqb a.empty b.empty) (eqb a.reserved b.reserved) u.0 in
    λ k.
    tally_with
    (eqb_eq a.empty b.empty r.0 k)
    (eqb_eq a.reserved b.reserved r.1 k)
    (eqb_eq a.enabled b.enabled u.1 k)
    (eqb_eq a.disabled b.disabled d.1 k)
    (eqb_eq a.payload b.payload p.1 k)

pub other_tally : (a b : Tally) → (a ≡ b → ⊥) → same_tally a b ≡ false
other_tally a b n = go (same_tally a b) refl
  where
    go : (s : Bool) → same_tally a b ≡ s → s ≡ false
    go true e = absurd (n (same_tally_eq a b e))
    go false e = refl
