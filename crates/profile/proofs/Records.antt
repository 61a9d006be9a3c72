-- PROFILE 8.3, record by record, from the agreement handle by handle.
use Prim.Native.Nat.{ℕ, zero, suc, ◌≤◌}
use mathlib.Core.Path.{◌≡◌, refl, sym, ap, ◌∙◌, subst}
use mathlib.Core.Logic.{◌⊎◌, inl, inr}
use mathlib.Core.List.{List, [], ◌∷◌, map}
use mathlib.Core.List.Memᴰ
use mathlib.Core.List.{Memᴰ}
use mathlib.Core.Bool.{true}
use mathlib.Core.Option.{Option, some, some-injective}
use lib.ListN.{length, get_elem?}
use Rattle.profile.specs.Bytes.{Bytes, joined, In}
use Rattle.profile.specs.Slot.{Right, Entry, reserved, enabled, disabled, Slot, empty, taken, distinct}
use Rattle.profile.specs.History.{Ledger, Opened, open_setup, Owned, for_use, lent, gone}
use Rattle.profile.specs.Run.{under_slot, under_setup, under_right, under_slots, Agrees}
use Rattle.profile.specs.Demand3.{Stands, usable, is_lent, Records}
use Rattle.profile.proofs.Logic.{same_refl, split}
use Rattle.profile.proofs.FirstEmpty.{not_there}
use Rattle.profile.proofs.Laws.{apart}
use Rattle.profile.proofs.Mirror.{only_one, mirrors}

-- ---- what is gathered from a list comes from one of its items
module _ {A : Type 0} (f : A → List Entry) where
  gathered_in : (xs : List A) (e : Entry) (x : A) → In x xs → Memᴰ e (f x) → Memᴰ e (joined (map f xs))
  gathered_in xs e x m = at xs m.0 m.1
    where
      at : (xs : List A) (i : ℕ) → get_elem? xs i ≡ some x → Memᴰ e (f x) → Memᴰ e (joined (map f xs))
      at [] i p m = absurd (not_there p)
      at (y ∷ xs) zero p m = Memᴰ.append_left {s = f y} (joined (map f xs)) (rw (some-injective y x p) m)
      at (y ∷ xs) (suc i) p m = Memᴰ.append_right (f y) (at xs i p m)

  gathered_from : (xs : List A) (e : Entry) → Memᴰ e (joined (map f xs)) → (x : A) × In x xs × Memᴰ e (f x)
  gathered_from [] e m = absurd (Memᴰ.not-nil m)
  gathered_from (y ∷ xs) e m = go (Memᴰ.append_cases (f y) m) (gathered_from xs e)
    where
      go : Memᴰ e (f y) ⊎ Memᴰ e (joined (map f xs))
          → (Memᴰ e (joined (map f xs)) → (x : A) × In x xs × Memᴰ e (f x)) → (x : A) × In x (y ∷ xs) × Memᴰ e (f x)
      go (inl m) ih = (y, (0, refl), m)
      go (inr m) ih =
          let r = ih m in
          (r.0, (suc r.1.0, r.1.1), r.2)

-- ---- a record, a setup and a right under a handle
under_taken : (h : Bytes) (e : Entry) → Memᴰ e (under_slot h (taken h e))
under_taken h e = rw (same_refl h) (Memᴰ.head refl)

taken_under : (h : Bytes) (s : Slot) (e : Entry) → Memᴰ e (under_slot h s) → s ≡ taken h e
taken_under h empty e m = absurd (Memᴰ.not-nil m)
taken_under h (taken k x) e m = split h k
    (λ p. rw (p, Memᴰ.eq_of_singleton (rw (p, same_refl k) at m)) refl)
    (λ q. absurd (Memᴰ.not-nil (rw q at m)))

under_open : (h : Bytes) (n : ℕ) → Memᴰ (reserved n) (under_setup h (open_setup h n))
under_open h n = rw (same_refl h) (Memᴰ.head refl)

room_of : Entry → ℕ
room_of (reserved n) = n
room_of (enabled r) = 0
room_of (disabled r) = 0

open_under : (h : Bytes) (s : Opened) (n : ℕ) → Memᴰ (reserved n) (under_setup h s) → s ≡ open_setup h n
unfolding room_of
open_under h (open_setup k m) n w = split h k
    (λ p. rw (p, ap room_of (Memᴰ.eq_of_singleton (rw (p, same_refl k) at w))) refl)
    (λ q. absurd (Memᴰ.not-nil (rw q at w)))

used_stands : {o : Owned} {h : Bytes} {r : Right} → Stands o h (enabled r) → o ≡ for_use h r
used_stands usable = refl

lent_stands : {o : Owned} {h : Bytes} {r : Right} → Stands o h (disabled r) → o ≡ lent h r
lent_stands is_lent = refl

-- what is reserved is no right
IsReserved : Entry → Type 0
IsReserved (reserved n) = Unit {0}
IsReserved (enabled r) = ⊥
IsReserved (disabled r) = ⊥

no_reserved : (h : Bytes) (o : Owned) (n : ℕ) → Memᴰ (reserved n) (under_right h o) → ⊥
unfolding IsReserved
no_reserved h (for_use k r) n m = split h k
    (λ p. subst IsReserved (Memᴰ.eq_of_singleton (rw (p, same_refl k) at m)) tt)
    (λ q. Memᴰ.not-nil (rw q at m))
no_reserved h (lent k r) n m = split h k
    (λ p. subst IsReserved (Memᴰ.eq_of_singleton (rw (p, same_refl k) at m)) tt)
    (λ q. Memᴰ.not-nil (rw q at m))
no_reserved h (gone r) n m = Memᴰ.not-nil m

-- a record that stands is the one under its handle
module _ (t : List Slot) (h : Bytes) (e : Entry) where
  pub only_there : length (under_slots h t) ≤ 1 → In (taken h e) t → under_slots h t ≡ e ∷ []
  only_there o i = only_one e (under_slots h t) o (gathered_in (under_slot h) t e (taken h e) i (under_taken h e))

  pub there_only : under_slots h t ≡ e ∷ [] → In (taken h e) t
  there_only p =
      let r = gathered_from (under_slot h) t e (rw p (Memᴰ.head refl)) in
      rw (← (taken_under h r.0 e r.2)) r.1

module _ (l : Ledger) (t : List Slot) (a : Agrees l t) (d : distinct t ≡ true) where
  used_right : (h : Bytes) (r : Right) → In (taken h (enabled r)) t → In (for_use h r) l.rights
  used_right h r i =
      let z = (mirrors l t a).righted h (enabled r) tt (only_there t h (enabled r) (a.once h) i) in
      (z.0, z.2 ∙ ap {B = Option Owned} some (used_stands z.3))

  lent_right : (h : Bytes) (r : Right) → In (taken h (disabled r)) t → In (lent h r) l.rights
  lent_right h r i =
      let z = (mirrors l t a).righted h (disabled r) tt (only_there t h (disabled r) (a.once h) i) in
      (z.0, z.2 ∙ ap {B = Option Owned} some (lent_stands z.3))

  awaited_setup : (h : Bytes) (n : ℕ) → In (taken h (reserved n)) t → In (open_setup h n) l.setups
  awaited_setup h n i = go (Memᴰ.append_cases (joined (map (under_setup h) l.setups)) (rw (sym (a.each h) ∙ only_there t h (reserved n) (a.once h) i) (Memᴰ.head refl)))
    where
      go : Memᴰ (reserved n) (joined (map (under_setup h) l.setups)) ⊎ Memᴰ (reserved n) (joined (map (under_right h) l.rights)) → In (open_setup h n) l.setups
      go (inl w) =
          let r = gathered_from (under_setup h) l.setups (reserved n) w in
          rw (← (open_under h r.0 n r.2)) r.1
      go (inr w) =
          let r = gathered_from (under_right h) l.rights (reserved n) w in
          absurd (no_reserved h r.0 n r.2)

  setup_awaited : (h : Bytes) (n : ℕ) → In (open_setup h n) l.setups → In (taken h (reserved n)) t
  setup_awaited h n i =
      there_only t h (reserved n)
      (only_one (reserved n) (under_slots h t) (a.once h)
      (rw (a.each h) (Memᴰ.append_left (joined (map (under_right h) l.rights)) (gathered_in (under_setup h) l.setups (reserved n) (open_setup h n) i (under_open h n)))))

  pub records : Records l t
  records =
      record {
        used = λ h r. (used_right h r, λ i. there_only t h (enabled r) ((mirrors l t a).recorded i.0 (for_use h r) h (enabled r) i.1 usable));
        away = λ h r. (lent_right h r, λ i. there_only t h (disabled r) ((mirrors l t a).recorded i.0 (lent h r) h (disabled r) i.1 is_lent));
        awaited = λ h n. (awaited_setup h n, setup_awaited h n);
        apart = apart t d;
      }
