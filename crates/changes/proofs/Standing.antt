-- What is known of a slot's bytes where it is known what the slot holds: how a record that was looked up meets the contracts here. Assumes nothing.
use Prim.Native.Nat.{ℕ, zero, suc, ◌<◌}
use mathlib.Core.Path.{◌≡◌, refl, sym, ◌∙◌}
use mathlib.Core.List.{List, []}
use mathlib.Core.Bool.{true}
use native.Mathlib.Omega.{arith}
use lib.ListN.{length, get_or, get_or-map}
use Rattle.profile.specs.Bytes.{Bytes, Bytes256}
use Rattle.profile.specs.Slot.{Entry, reserved, enabled, disabled, Slot, empty, taken}
use Rattle.profile.specs.Table.{place_of, unpack, slot_bytes, slots_of, whole_slots, well_table}
use Rattle.profile.proofs.Lookup.{EmptyAt, here, there}
use Rattle.profile.proofs.WellFormed.{count_slots}
use Rattle.changes.specs.Change.{slot_at, Has}

-- ---- a slot's bytes, by what they unpack to
abbrev pub entry_place : Entry → ℕ
entry_place (reserved n) = 1
entry_place (enabled r) = 2
entry_place (disabled r) = 3

never : {h : Bytes} {e : Entry} → taken h e ≡ empty → ⊥
never q = let z : ◌≡◌ {A = ℕ} 0 1 = cc in omega arith

module _ (s : Bytes) where
  pub empty_place : unpack s ≡ empty → place_of s ≡ 0
  unfolding unpack
  empty_place e = go (place_of s) refl
    where
      go : (p : ℕ) → place_of s ≡ p → p ≡ 0
      go zero q = refl
      go (suc zero) q = absurd (never (rw q at e))
      go (suc (suc zero)) q = absurd (never (rw q at e))
      go (suc (suc (suc p))) q = absurd (never (rw q at e))

  -- a byte's two bits make no place over 3
  pub taken_place : Bytes256 s → (h : Bytes) (e : Entry) → unpack s ≡ taken h e → place_of s ≡ entry_place e
  unfolding unpack
  taken_place bytes h e u = go (place_of s) refl e u
    where
      go : (p : ℕ) → place_of s ≡ p → (e : Entry) → unpack s ≡ taken h e → p ≡ entry_place e
      go zero q e u = absurd (never (sym (rw q at u)))
      go (suc zero) q (reserved n) u = refl
      go (suc zero) q (enabled r) u = let z = rw q at u in cc
      go (suc zero) q (disabled r) u = let z = rw q at u in cc
      go (suc (suc zero)) q (reserved n) u = let z = rw q at u in cc
      go (suc (suc zero)) q (enabled r) u = refl
      go (suc (suc zero)) q (disabled r) u = let z = rw q at u in cc
      go (suc (suc (suc zero))) q (reserved n) u = let z = rw q at u in cc
      go (suc (suc (suc zero))) q (enabled r) u = let z = rw q at u in cc
      go (suc (suc (suc zero))) q (disabled r) u = refl
      go (suc (suc (suc (suc p)))) q e u = absurd (omega (arith, bytes 0))

-- ---- a slot of a table
empty_at : {t : List Slot} {i : ℕ} → EmptyAt t i → get_or t i empty ≡ empty
empty_at here = refl
empty_at (there z) = empty_at z

-- a slot's bytes unpack to it
pub unpacked : (t : Bytes) (i : ℕ) → get_or (slots_of t) i empty ≡ unpack (slot_at t i)
unfolding slots_of unpack
unpacked t i = get_or-map unpack (slot_bytes t) i []

module _ (t : Bytes) (whole : whole_slots t ≡ true) (well : well_table t ≡ true) where
  pub has : (i : ℕ) → i < length (slots_of t) → Has t i
  has i h = record { whole = whole; well = well; inside = rw (count_slots t whole well) at h }

  -- the slot that a setup takes
  pub free_place : (i : ℕ) → EmptyAt (slots_of t) i → place_of (slot_at t i) ≡ 0
  free_place i z = empty_place (slot_at t i) (sym (unpacked t i) ∙ empty_at z)
