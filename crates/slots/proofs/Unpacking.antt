-- What a slot unpacks to, by the number of its place. Assumes nothing.
use Prim.Native.Nat.{ℕ, zero, suc}
use mathlib.Core.Path.{◌≡◌, refl, sym, ap, ◌∙◌}
use mathlib.Core.Bool.{true, false, not}
use native.Mathlib.Omega.{arith}
use borrow.Author.Tests.{ne_eqb}
use lib.Dec.{eqb}
use lib.ListN.{length}
use Rattle.profile.specs.Bytes.{Bytes, part, word, same}
use Rattle.profile.specs.Slot.{Entry, reserved, enabled, disabled, empty, taken, named}
use Rattle.profile.specs.Table.{place_of, right_of, unpack}
use Rattle.slots.specs.declared.place.Place.{Place}
use Rattle.slots.specs.declared.place.Place.TheVariants.{Empty, Reserved, Enabled, Disabled}
use Rattle.slots.specs.Places.{place_number, place_of_entry}

-- a taken slot is not empty, and has one handle and one entry
pub empty_taken : (h : Bytes) (e : Entry) → empty ≡ taken h e → ⊥
empty_taken h e q = let z : ◌≡◌ {A = ℕ} 0 1 = cc in omega arith

pub same_entry : {h k : Bytes} {e f : Entry} → taken h e ≡ taken k f → e ≡ f
same_entry q = cc

pub same_handle : {h k : Bytes} {e f : Entry} → taken h e ≡ taken k f → h ≡ k
same_handle q = cc

module _ (s : Bytes) where
  pub unpack_empty : place_of s ≡ 0 → unpack s ≡ empty
  unfolding unpack
  unpack_empty e = rw e

  pub unpack_reserved : place_of s ≡ 1 → unpack s ≡ taken (part 1 10 s) (reserved (word 29 s))
  unfolding unpack
  unpack_reserved e = rw e

  pub unpack_enabled : place_of s ≡ 2 → unpack s ≡ taken (part 1 10 s) (enabled (right_of s))
  unfolding unpack
  unpack_enabled e = rw e

  pub unpack_disabled : (n : ℕ) → place_of s ≡ suc (suc (suc n)) → unpack s ≡ taken (part 1 10 s) (disabled (right_of s))
  unfolding unpack
  unpack_disabled n e = rw e

  -- every slot but an empty one has a handle
  pub unpack_taken : (place_of s ≡ 0 → ⊥) → (e : Entry) × (unpack s ≡ taken (part 1 10 s) e)
  unpack_taken no-empty = go (place_of s) refl
    where
      go : (p : ℕ) → place_of s ≡ p → (e : Entry) × (unpack s ≡ taken (part 1 10 s) e)
      go zero at = absurd (no-empty at)
      go (suc zero) at = (reserved (word 29 s), unpack_reserved at)
      go (suc (suc zero)) at = (enabled (right_of s), unpack_enabled at)
      go (suc (suc (suc n))) at = (disabled (right_of s), unpack_disabled n at)

  pub named_empty : (h : Bytes) → place_of s ≡ 0 → named h (unpack s) ≡ false
  named_empty h e = ap (named h) (unpack_empty e)

  pub named_taken : (h : Bytes) → (place_of s ≡ 0 → ⊥) → named h (unpack s) ≡ same h (part 1 10 s)
  named_taken h e = ap (named h) (unpack_taken e).1

  -- the handle's bytes are a handle where the slot is not empty
  pub named_same : (h : Bytes) → length h ≡ 10 → same h (part 1 (length h) s) ≡ true → (p : ℕ) → p ≡ place_of s → not (eqb p 0) ≡ named h (unpack s)
  named_same h l e zero at = sym (named_empty h (sym at))
  named_same h l e (suc p) at = rw (ne_eqb (suc p) 0 (λ z. omega (arith, z))) (sym (named_taken h (λ z. omega (arith, z, at)) ∙ (rw l at e)))

  -- other bytes are another handle, or none
  pub named_differs : (h : Bytes) → length h ≡ 10 → same h (part 1 (length h) s) ≡ false → named h (unpack s) ≡ false
  named_differs h l e = go (place_of s) refl
    where
      go : (p : ℕ) → place_of s ≡ p → named h (unpack s) ≡ false
      go zero at = named_empty h at
      go (suc p) at = named_taken h (λ z. omega (arith, z, at)) ∙ (rw l at e)

  -- the place that the code reads is the entry's
  pub place_of_entry_lem : (p : Place) (h : Bytes) (e : Entry) → place_number p ≡ place_of s → unpack s ≡ taken h e → p ≡ place_of_entry e
  place_of_entry_lem Empty h e n u = absurd (empty_taken h e (sym (unpack_empty (sym n)) ∙ u))
  place_of_entry_lem Reserved h e n u = ap place_of_entry (same_entry (sym (unpack_reserved (sym n)) ∙ u))
  place_of_entry_lem Enabled h e n u = ap place_of_entry (same_entry (sym (unpack_enabled (sym n)) ∙ u))
  place_of_entry_lem Disabled h e n u = ap place_of_entry (same_entry (sym (unpack_disabled 0 (sym n)) ∙ u))
