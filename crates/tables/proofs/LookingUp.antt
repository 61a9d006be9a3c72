-- The first slot under a handle, and what looking the handle up answers. Assumes nothing.
use Prim.Native.Nat.{ℕ, zero, suc, ◌+◌, ◌≤◌, ◌<◌}
use mathlib.Core.Path.{◌≡◌, refl, sym, ap, ◌∙◌}
use mathlib.Core.List.{List, [], ◌∷◌, map}
use mathlib.Core.Option.{some}
use mathlib.Core.Bool.{Bool, true, false}
use native.Mathlib.Omega.{arith}
use native.Mathlib.Nat.{not-suc-le-zero}
use borrow.Author.Tests.{ltb-true, ltb-false}
use lib.Dec.{ltb}
use lib.ListN.{length, get_or, get_elem?, get_or-map}
use Rattle.std.specs.Prelude.{Option, Some, None, cond}
use Rattle.std.specs.List.{position_or_len, position}
use Rattle.profile.specs.Bytes.{Bytes, same}
use Rattle.profile.specs.Slot.{Entry, Slot, empty, taken, named}
use Rattle.profile.specs.Table.{place_of, unpack, slot_bytes, slots_of}
use Rattle.profile.specs.Agent.{absent, one, next, find}
use Rattle.profile.proofs.FirstEmpty.{not_there}
use Rattle.profile.proofs.Laws.{found_is}
use Rattle.slots.specs.declared.place.Place.{Place}
use Rattle.slots.specs.Places.{place_number, place_of_entry}
use Rattle.slots.proofs.Unpacking.{place_of_entry_lem}
use Rattle.tables.specs.LookUp.{found_at}

one-add : (n : ℕ) → 1 + n ≡ suc n
one-add n = omega arith

some_none : {n : ℕ} → Some n ≡ None → ⊥
some_none q = let z : ◌≡◌ {A = ℕ} 0 1 = cc in omega arith

some_is : {n i : ℕ} → Some n ≡ Some i → n ≡ i
some_is q = cc

-- ---- the first slot under the handle is the one found; where none is, nothing is found
abbrev first : Bytes → List Slot → ℕ
first h t = position_or_len (named h) t

first_found : (h : Bytes) (t : List Slot) → first h t < length t → (e : Entry) × (find h t ≡ one (first h t) e)
first_found h [] l = absurd (not-suc-le-zero l)
first_found h (empty ∷ t) l = let r = first_found h t (omega (arith, l)) in rw (one-add (first h t)) (r.0, ap next r.1)
first_found h (taken k e ∷ t) l = go (same h k) refl (first_found h t)
  where
    go : (b : Bool) → same h k ≡ b → (first h t < length t → (e : Entry) × (find h t ≡ one (first h t) e))
        → (x : Entry) × (find h (taken k e ∷ t) ≡ one (first h (taken k e ∷ t)) x)
    go true q ih = rw q (e, refl)
    go false q ih = let r = ih (omega (arith, rw q at l)) in rw (q, one-add (first h t)) (r.0, ap next r.1)

none_found : (h : Bytes) (t : List Slot) → length t ≤ first h t → find h t ≡ absent
none_found h [] l = refl
none_found h (empty ∷ t) l = ap next (none_found h t (omega (arith, l)))
none_found h (taken k e ∷ t) l = go (same h k) refl (none_found h t)
  where
    go : (b : Bool) → same h k ≡ b → (length t ≤ first h t → find h t ≡ absent) → find h (taken k e ∷ t) ≡ absent
    go true q ih = absurd (omega (arith, rw q at l))
    go false q ih = rw q (ap next (ih (omega (arith, rw q at l))))

-- a slot that is found is one of the slots, and is under the handle
pub record Stands (h : Bytes) (t : List Slot) (i : ℕ) (e : Entry) (d : Slot) : Type 0 where
  pub below : i < length t
  pub there : get_or t i d ≡ taken h e

stands_at : (h : Bytes) (t : List Slot) (i : ℕ) (e : Entry) (d : Slot) → get_elem? t i ≡ some (taken h e) → Stands h t i e d
stands_at h [] i e d p = absurd (not_there p)
stands_at h (s ∷ t) zero e d p = record { below = omega arith; there = cc }
stands_at h (s ∷ t) (suc i) e d p = let r = stands_at h t i e d p in record { below = omega (arith, r.below); there = r.there }

pub found_stands : (h : Bytes) (t : List Slot) (i : ℕ) (e : Entry) (d : Slot) → find h t ≡ one i e → Stands h t i e d
found_stands h t i e d q = stands_at h t i e d (rw q at (found_is h t))

-- ---- the two answers
no_place : (n m : ℕ) → cond (ltb n m) (Some n) None ≡ None → m ≤ n
no_place n m e = go (ltb n m) refl
  where
    go : (b : Bool) → ltb n m ≡ b → m ≤ n
    go true q = absurd (some_none (rw q at e))
    go false q = ltb-false n m q

one_place : (n m i : ℕ) → cond (ltb n m) (Some n) None ≡ Some i → (n ≡ i) × (n < m)
one_place n m i e = go (ltb n m) refl
  where
    go : (b : Bool) → ltb n m ≡ b → (n ≡ i) × (n < m)
    go true q = (some_is (rw q at e), ltb-true n m q)
    go false q = absurd (some_none (sym (rw q at e)))

module _ (h : Bytes) (t : List Slot) where
  pub answers_absent : position (named h) t ≡ None → found_at (find h t) ≡ None
  unfolding found_at
  answers_absent e = rw (none_found h t (no_place _ _ e))

  pub answers_at : (i : ℕ) → position (named h) t ≡ Some i → (d : Slot) (p : Place) → ((e : Entry) → get_or t i d ≡ taken h e → p ≡ place_of_entry e)
      → found_at (find h t) ≡ Some (record { at = i; place = p })
  unfolding found_at
  answers_at i e d p place =
      let at : (first h t ≡ i) × (first h t < length t) = one_place _ _ i e in
      let here : (e : Entry) × (find h t ≡ one i e) = rw at.0 at (first_found h t at.1) in
      rw here.1 (ap (λ (q : Place). Some (record { at = i; place = q })) (sym (place here.0 (found_stands h t i here.0 d here.1).there)))

-- ---- over a table's bytes, cut into its slots
module _ (t h : Bytes) (ss : List Bytes) (cut : ss ≡ slot_bytes t) (r : Option ℕ) (first : r ≡ position (named h) (map unpack ss)) where
  there : r ≡ position (named h) (slots_of t)
  unfolding slots_of
  there = rw (← cut) first

  pub looks_absent : r ≡ None → None ≡ found_at (find h (slots_of t))
  looks_absent e = sym (answers_absent h (slots_of t) (sym there ∙ e))

  pub looks_at : (i : ℕ) → r ≡ Some i → (p : Place) → place_number p ≡ place_of (get_or ss i []) → Some (record { at = i; place = p }) ≡ found_at (find h (slots_of t))
  unfolding slots_of
  looks_at i e p n =
      sym (answers_at h (slots_of t) i (sym there ∙ e) (unpack []) p
      (λ x named. place_of_entry_lem (get_or ss i []) p h x n (sym (get_or-map unpack ss i []) ∙ rw cut named)))
