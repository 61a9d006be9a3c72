-- What is cleared, and what the agent's kinds 6 and 7 are in its terms. Assumes nothing.
use Prim.Native.Nat.{ℕ}
use mathlib.Core.Path.{◌≡◌, refl, ap}
use mathlib.Core.List.{List}
use mathlib.Core.Bool.{Bool, true}
use native.Mathlib.Omega.{arith}
use lib.ListN.{set}
use Rattle.profile.specs.Bytes.{Bytes}
use Rattle.profile.specs.Slot.{Entry, reserved, enabled, disabled, Slot, empty}
use Rattle.profile.specs.Table.{length_of, slots_of}
use Rattle.profile.specs.Request.{remove, cancel}
use Rattle.profile.specs.Agent.{nothing, done, find, when_found, remove_at, cancel_at, act}
use Rattle.slots.specs.declared.place.Place.{Place}
use Rattle.slots.specs.declared.place.Place.TheVariants.{Empty, Reserved, Enabled, Disabled}
use Rattle.slots.specs.Places.{place_number}
use Rattle.changes.specs.Change.{slot_at}
use Rattle.tallies.specs.declared.update.Change.{Change}
use Rattle.tallies.specs.declared.update.Change.TheVariants.{Moved}
use Rattle.tallies.specs.Changes.{change_in}
use Rattle.decisions.specs.Decisions.{awaited, installed}
use Rattle.decisions.specs.Serving.{Serves, answer_to}
use Rattle.decisions.proofs.Deciding.{Expects, Held, moved_from}
use Rattle.removals.specs.Clearing.{clear_at}

pub clear_expects : (w : Place → Bool) (u : List Slot) → Expects w (clear_at w u)
clear_expects w u i e q = rw q

module _ (w : Place → Bool) (T h : Bytes) (i : ℕ) where
  pub cleared : (o : Place) → Held T h i o × (w o ≡ true) → when_found (find h (slots_of T)) (clear_at w (slots_of T)) ≡ done nothing (set (slots_of T) i empty)
  cleared Empty s = absurd (s.0.filled refl)
  cleared Reserved s = rw (s.0.found, s.1)
  cleared Enabled s = rw (s.0.found, s.1)
  cleared Disabled s = rw (s.0.found, s.1)

  -- the slot was counted at its place, and is empty then
  pub clear_moves : (o : Place) → Held T h i o × (w o ≡ true) → (n : ℕ) → n ≡ length_of (slot_at T i) → Moved o n Empty 0 ≡ change_in (slots_of T) (set (slots_of T) i empty)
  clear_moves Empty s n e = absurd (s.0.filled refl)
  clear_moves Reserved s n e = rw e (moved_from Reserved s.0 empty (λ _ q. omega (arith, ap place_number q)) (λ q. omega (arith, q)))
  clear_moves Enabled s n e = rw e (moved_from Enabled s.0 empty (λ _ q. omega (arith, ap place_number q)) (λ q. omega (arith, q)))
  clear_moves Disabled s n e = rw e (moved_from Disabled s.0 empty (λ _ q. omega (arith, ap place_number q)) (λ q. omega (arith, q)))

-- kind 6 takes a record that is installed, kind 7 one that is reserved
module _ {T B T' B' : Bytes} {y : Change} (h : Bytes) where
  pub removed : Serves 6 (when_found (find h (slots_of T)) (clear_at installed (slots_of T))) T B T' B' y → Serves 6 (answer_to T (remove h)) T B T' B' y
  unfolding act
  removed s = rw (ap (when_found (find h (slots_of T))) (λ x i e. same i e x)) at s
    where
      same : (i : ℕ) (e : Entry) → clear_at installed (slots_of T) i e ≡ remove_at (slots_of T) i e
      same i (reserved n) = refl
      same i (enabled r) = refl
      same i (disabled r) = refl

  pub cancelled : Serves 7 (when_found (find h (slots_of T)) (clear_at awaited (slots_of T))) T B T' B' y → Serves 7 (answer_to T (cancel h)) T B T' B' y
  unfolding act
  cancelled s = rw (ap (when_found (find h (slots_of T))) (λ x i e. same i e x)) at s
    where
      same : (i : ℕ) (e : Entry) → clear_at awaited (slots_of T) i e ≡ cancel_at (slots_of T) i e
      same i (reserved n) = refl
      same i (enabled r) = refl
      same i (disabled r) = refl
