-- What a change of one slot is to a tally: the slot was counted, the new numbers are those of the new slots, and they have 16 bits. Assumes nothing.
use Prim.Native.Nat.{ℕ, zero, suc, ◌*◌, ◌≤◌}
use mathlib.Core.Path.{◌≡◌, refl, ap, ◌∙◌}
use mathlib.Core.List.{List, [], ◌∷◌}
use mathlib.Core.Option.{some, some-injective}
use mathlib.Core.Bool.{Bool, true, false}
use native.Mathlib.Omega.{arith}
use lib.Dec.{eqb}
use lib.ListN.{length, set, get_elem?}
use Rattle.profile.specs.Slot.{reserved, enabled, disabled, Slot, empty, taken, TableFits}
use Rattle.profile.specs.Tally.{Tally, in_slot, plus, tally_of}
use Rattle.profile.proofs.Logic.{eqb_eq, eqb_true}
use Rattle.profile.proofs.FirstEmpty.{not_there}
use Rattle.profile.proofs.TallyLaws.{sum, sums, counts_all, tally_slot}
use Rattle.slots.specs.Places.{place_number}
use Rattle.tallies.specs.declared.update.Change.{Change}
use Rattle.tallies.specs.declared.update.Change.TheVariants.{Same}
use Rattle.tallies.specs.Shares.{share, less, Within, Small}
use Rattle.tallies.specs.Changes.{place_in, length_in, moved, change_in, updated, Updates}

-- a slot counts for its place and its length
pub slot_share : (s : Slot) → in_slot s ≡ share (place_in s) (length_in s)
slot_share empty = refl
slot_share (taken h (reserved n)) = refl
slot_share (taken h (enabled r)) = refl
slot_share (taken h (disabled r)) = refl

-- ---- one slot of some, at another place then
pub record OneSlot (t u : List Slot) : Type 0 where
  pub at : ℕ
  pub before : Slot
  pub after : Slot
  pub stands : get_elem? t at ≡ some before
  pub becomes : u ≡ set t at after
  pub elsewhere : place_number (place_in before) ≡ place_number (place_in after) → ⊥

pub none_moved : (t : List Slot) → change_in t t ≡ Same
unfolding change_in
none_moved [] = refl
none_moved (s ∷ t) = rw (eqb_true (place_number (place_in s)) (place_number (place_in s)) refl) (none_moved t)

pub one_moved : (t : List Slot) (i : ℕ) (s x : Slot) → get_elem? t i ≡ some s → (place_number (place_in s) ≡ place_number (place_in x) → ⊥)
    → change_in t (set t i x) ≡ moved s x
unfolding change_in
one_moved [] i s x p n = absurd (not_there p)
one_moved (y ∷ t) zero s x p n = rw (some-injective y s p, other) refl
  where
    go : (b : Bool) → eqb (place_number (place_in s)) (place_number (place_in x)) ≡ b → b ≡ false
    go true e = absurd (n (eqb_eq (place_number (place_in s)) (place_number (place_in x)) e))
    go false e = refl

    other : eqb (place_number (place_in s)) (place_number (place_in x)) ≡ false
    other = go (eqb (place_number (place_in s)) (place_number (place_in x))) refl
one_moved (y ∷ t) (suc i) s x p n = rw (eqb_true (place_number (place_in y)) (place_number (place_in y)) refl) (one_moved t i s x p n)

-- ---- each slot is counted
at_most : (f : Slot → ℕ) (t : List Slot) (i : ℕ) (s : Slot) → get_elem? t i ≡ some s → f s ≤ sum f t
at_most f [] i s p = absurd (not_there p)
at_most f (y ∷ t) zero s p = rw (some-injective y s p) (omega arith)
at_most f (y ∷ t) (suc i) s p = omega (arith, at_most f t i s p)

counted : (t : List Slot) (i : ℕ) (s : Slot) → get_elem? t i ≡ some s → Within (in_slot s) (tally_of t)
counted t i s p =
    rw (sums t)
    (record {
      empty = at_most (λ x. (in_slot x).empty) t i s p;
      reserved = at_most (λ x. (in_slot x).reserved) t i s p;
      enabled = at_most (λ x. (in_slot x).enabled) t i s p;
      disabled = at_most (λ x. (in_slot x).disabled) t i s p;
      payload = at_most (λ x. (in_slot x).payload) t i s p;
    })

-- ---- at most 15 slots have a tally of small numbers
payload_most : (t : List Slot) → TableFits t → sum (λ s. (in_slot s).payload) t ≤ 4096 * length t
payload_most [] f = omega arith
payload_most (empty ∷ t) f = omega (arith, payload_most t f.1)
payload_most (taken h (reserved n) ∷ t) f = omega (arith, payload_most t f.1)
payload_most (taken h (enabled r) ∷ t) f = omega (arith, payload_most t f.1, f.0.1.room.short)
payload_most (taken h (disabled r) ∷ t) f = omega (arith, payload_most t f.1, f.0.1.room.short)

pub tally_small : (t : List Slot) → TableFits t → length t ≤ 15 → Small (tally_of t)
tally_small t f few =
    record {
      empty = omega (arith, counts_all t, few);
      reserved = omega (arith, counts_all t, few);
      enabled = omega (arith, counts_all t, few);
      disabled = omega (arith, counts_all t, few);
      payload = omega (arith, payload, few);
    }
  where
    payload : (tally_of t).payload ≤ 4096 * length t
    payload = rw (sums t) (payload_most t f)

-- ---- the new numbers
-- five equal numbers are one tally
five : {a b : Tally} → a.empty ≡ b.empty → a.reserved ≡ b.reserved → a.enabled ≡ b.enabled → a.disabled ≡ b.disabled → a.payload ≡ b.payload → a ≡ b
five e r u d p = λ k. record { empty = e k; reserved = r k; enabled = u k; disabled = d k; payload = p k }

moved_tally : (t : List Slot) (i : ℕ) (s x : Slot) → get_elem? t i ≡ some s → plus (less (tally_of t) (in_slot s)) (in_slot x) ≡ tally_of (set t i x)
moved_tally t i s x p =
    let w = counted t i s p in
    let e = tally_slot t i s x p in
    five
    (omega (arith, w.empty, ap (λ (y : Tally). y.empty) e))
    (omega (arith, w.reserved, ap (λ (y : Tally). y.reserved) e))
    (omega (arith, w.enabled, ap (λ (y : Tally). y.enabled) e))
    (omega (arith, w.disabled, ap (λ (y : Tally). y.disabled) e))
    (omega (arith, w.payload, ap (λ (y : Tally). y.payload) e))

-- what a slot that comes to another place is to a tally, whichever two places these are
moved_updated : (t : Tally) (s x : Slot) → updated t (moved s x) ≡ plus (less t (in_slot s)) (in_slot x)
moved_updated t empty x = rw (slot_share x) refl
moved_updated t (taken h (reserved n)) x = rw (slot_share x) refl
moved_updated t (taken h (enabled r)) x = rw (slot_share x) refl
moved_updated t (taken h (disabled r)) empty = refl
moved_updated t (taken h (disabled r)) (taken k (reserved n)) = refl
moved_updated t (taken h (disabled r)) (taken k (enabled q)) = refl
moved_updated t (taken h (disabled r)) (taken k (disabled q)) = refl

moved_updates : (t : Tally) (s x : Slot) → Within (in_slot s) t → Small (updated t (moved s x)) → Updates t (moved s x)
moved_updates t empty x w m = (w, m)
moved_updates t (taken h (reserved n)) x w m = (w, m)
moved_updates t (taken h (enabled r)) x w m = (w, m)
moved_updates t (taken h (disabled r)) empty w m = (w, m)
moved_updates t (taken h (disabled r)) (taken k (reserved n)) w m = (w, m)
moved_updates t (taken h (disabled r)) (taken k (enabled q)) w m = (w, m)
moved_updates t (taken h (disabled r)) (taken k (disabled q)) w m = (w, m)

module _ (t u : List Slot) (o : OneSlot t u) where
  abbrev change : Change
  change = moved o.before o.after

  pub one_change : change_in t u ≡ change
  one_change = rw o.becomes (one_moved t o.at o.before o.after o.stands o.elsewhere)

  after_one : updated (tally_of t) change ≡ tally_of u
  after_one = moved_updated (tally_of t) o.before o.after ∙ rw o.becomes (moved_tally t o.at o.before o.after o.stands)

  pub one_updated : updated (tally_of t) (change_in t u) ≡ tally_of u
  one_updated = rw one_change after_one

  pub one_updates : TableFits u → length u ≤ 15 → Updates (tally_of t) (change_in t u)
  one_updates f few = rw one_change (moved_updates (tally_of t) o.before o.after (counted t o.at o.before o.stands) (rw after_one (tally_small u f few)))
