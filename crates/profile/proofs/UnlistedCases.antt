-- The worked cases of rights without a hash hold.
use Prim.Native.Nat.{ℕ, zero, suc}
use mathlib.Core.Path.{◌≡◌, refl, ap, ◌∙◌}
use mathlib.Core.Logic.{◌⊎◌, inl, inr}
use mathlib.Core.List.{List, [], ◌∷◌}
use mathlib.Core.Option.{Option, none, some}
use lib.ListN.{length, get_elem?}
use Rattle.profile.specs.Bytes.{Bytes, byte, In}
use Rattle.profile.specs.Slot.{Some, Right, Slot}
use Rattle.profile.specs.Request.{list}
use Rattle.profile.specs.Agent.{nothing, the_right, the_key, handles, counted, Answer, deny, done, act}
use Rattle.profile.specs.CaseBytes.{H2, H3, H4, A}
use Rattle.profile.specs.Unlisted.{Listed, slot_right, HoldsRight}
use Rattle.profile.specs.UnlistedCases.{bare, slots, Hold}
use Rattle.profile.proofs.Logic.{not_equal, not_over}
use Rattle.profile.proofs.FirstEmpty.{not_there}

-- ---- one right in a slot
right_at : Option Slot → Option Right
right_at none = none
right_at (some s) = slot_right s

at_slot : {t : List Slot} {i : ℕ} {r : Right} → HoldsRight t i r → right_at (get_elem? t i) ≡ some r
unfolding right_at
at_slot w = ap right_at w.there ∙ w.holds

-- ---- one list of handles
list_in : Answer → List Bytes
list_in (deny r) = []
list_in (done nothing t) = []
list_in (done (the_right r) t) = []
list_in (done (the_key k) t) = []
list_in (done (handles more hs) t) = hs
list_in (done (counted c p) t) = []

list_is : {t : List Slot} {q : List Bytes} {h : Bytes} (l : Listed 5 t q h) → list_in (act 5 t (list 0 q)) ≡ l.all
unfolding list_in
list_is l = ap list_in l.gives

-- in a list of two handles, or of one, stands one of them
first_byte : Option Bytes → ℕ
first_byte none = 0
first_byte (some s) = byte 0 s

in_two : (a b h : Bytes) → In h (a ∷ b ∷ []) → (byte 0 a ≡ byte 0 h) ⊎ (byte 0 b ≡ byte 0 h)
unfolding first_byte
in_two a b h (zero, e) = inl (ap first_byte e)
in_two a b h (suc zero, e) = inr (ap first_byte e)
in_two a b h (suc (suc i), e) = absurd (not_there e)

in_one : (a h : Bytes) → In h (a ∷ []) → byte 0 a ≡ byte 0 h
unfolding first_byte
in_one a h (zero, e) = ap first_byte e
in_one a h (suc i, e) = absurd (not_there e)

lent_off : Listed 5 slots [] H4 → ⊥
unfolding act list_in
lent_off l = go (in_two H2 H3 H4 (rw (← (list_is l)) at l.has))
  where
    go : (byte 0 H2 ≡ byte 0 H4) ⊎ (byte 0 H3 ≡ byte 0 H4) → ⊥
    go (inl e) = not_equal 2 4 (λ t. t) e
    go (inr e) = not_equal 3 4 (λ t. t) e

by_hash_off : (h : Bytes) → (byte 0 H3 ≡ byte 0 h → ⊥) → Listed 5 slots (A ∷ []) h → ⊥
unfolding act list_in
by_hash_off h n l = n (in_one H3 h (rw (← (list_is l)) at l.has))

-- ---- these cases
what : Option Right → Right
what none = bare
what (some r) = r

in_slot : {t : List Slot} {i : ℕ} {r : Right} → HoldsRight t i r → what (right_at (get_elem? t i)) ≡ r
unfolding what
in_slot w = ap what (at_slot w)

pub unlisted_hold : Hold
unfolding act right_at what
unlisted_hold =
    record {
      rights = refl;
      stands_enabled = record { slot = _; there = refl; holds = refl };
      stands_disabled = record { slot = _; there = refl; holds = refl };
      not_another = λ w. not_equal 1 5 (λ t. t) (ap (λ (r : Right). length r.payload) (in_slot w));
      not_reserved = λ w. not_there (at_slot w);
      not_empty = λ w. not_there (at_slot w);
      not_outside = λ w. not_there (at_slot w);
      other_count = record { count = Some 7; stands = record { slot = _; there = refl; holds = refl } };
      other_key = λ w. not_equal 1 0xE0 (λ t. t) (ap (λ (r : Right). byte 0 r.key) (in_slot w.stands));
      other_payload = λ w. not_equal 5 1 (λ t. t) (ap (λ (r : Right). length r.payload) (in_slot w.stands));
      other_hashes = λ w. not_equal 0 1 (λ t. t) (ap (λ (r : Right). length r.hashes) (in_slot w.stands));
      bare_listed = record { all = _; gives = refl; has = (0, refl) };
      both_listed = record { all = _; gives = refl; has = (1, refl) };
      by_its_hash = record { all = _; gives = refl; has = (0, refl) };
      bare_not = by_hash_off H2 (not_equal 3 2 (λ t. t));
      lent_not = lent_off;
      bare_unfound = λ f. not_over 1 0 (λ t. t) f.some_hash;
      lent_unfound = λ f. by_hash_off H4 (not_equal 3 4 (λ t. t)) (f.by_each A (0, refl));
    }
