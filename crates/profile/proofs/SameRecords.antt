-- PROFILE 8.4: slots with the same records, wherever these stand, answer alike; only a list may have another order and, under a limit, other handles.
use Prim.Native.Nat.{ℕ, zero, suc, ◌+◌, ◌≤◌, ◌<◌}
use mathlib.Core.Path.{◌≡◌, refl, sym, ap, ◌∙◌}
use mathlib.Core.List.{List, [], ◌∷◌, cons≢nil, head-eq_of_cons-eq}
use mathlib.Core.Option.{some, some-injective}
use mathlib.Core.Bool.{Bool, true, false, ◌||◌}
use native.Mathlib.Omega.{arith}
use lib.Dec.{eqb, leb, ltb}
use lib.ListN.{length, set, get_elem?, length-append}
use Rattle.profile.specs.Bytes.{Bytes, In}
use Rattle.profile.specs.Slot.{Count, raises, Right, Entry, reserved, enabled, disabled, Slot, empty, taken, in_use}
use Rattle.profile.specs.Tally.{tally_with, in_slot, tally_of}
use Rattle.profile.specs.Frame.{Refusal}
use Rattle.profile.specs.Request.{Request, setup, install, retrieve, rek, enable, remove, cancel, list, info}
use Rattle.profile.specs.Agent.{Given, the_right, the_key, Answer, deny, done, Found, absent, one, find, when_found}
use Rattle.profile.specs.Agent.{install_at, lend_at, enable_at, remove_at, cancel_at, info_at, listed_slot, listed, act, first_empty_from}
use Rattle.profile.specs.Run.{under_slots}
use Rattle.profile.specs.Laws.{Full, FoundIs, Shown}
use Rattle.profile.specs.Starts.{SameRecords}
use Rattle.profile.proofs.Logic.{leb_le, leb_over, same_refl, split, if_two}
use Rattle.profile.proofs.TallyLaws.{sum, sums, counts_all}
use Rattle.profile.proofs.Lookup.{EmptyAt, here, there, Free, Looked, find_looked, not_in_use, no_length}
use Rattle.profile.proofs.Tables.{not_in_use_lem}
use Rattle.profile.proofs.FirstEmpty.{not_there, first_free, first_most, none_empty}
use Rattle.profile.proofs.Laws.{found_is}
use Rattle.profile.proofs.ListLaws.{listed_exact}
use Rattle.profile.proofs.AnyTable.{fewer}
use Rattle.profile.proofs.Records.{only_there, there_only}

-- the same records, at most one under each handle
pub record Like (t u : List Slot) : Type 0 where
  pub records : SameRecords t u
  pub once : (h : Bytes) → length (under_slots h t) ≤ 1

pub like_back : {t u : List Slot} → Like t u → Like u t
like_back a =
    record {
      records = record { as_many = sym a.records.as_many; each = λ h. sym (a.records.each h) };
      once = λ h. rw (← (a.records.each h)) (a.once h);
    }

-- ---- counting: a number for each slot, 0 for an empty one, added up
module _ (f : Slot → ℕ) (z : f empty ≡ 0) where
  -- slot i, and all others
  sum_at : (t : List Slot) (i : ℕ) (s : Slot) → get_elem? t i ≡ some s → sum f t ≡ f s + sum f (set t i empty)
  sum_at [] i s p = absurd (not_there p)
  sum_at (x ∷ t) zero s p = rw (some-injective x s p) (omega (arith, z))
  sum_at (x ∷ t) (suc i) s p = omega (arith, sum_at t i s p)

  sum_none : (u : List Slot) → ((h : Bytes) → under_slots h u ≡ []) → sum f u ≡ 0
  sum_none [] n = refl
  sum_none (empty ∷ u) n = omega (arith, z, sum_none u n)
  sum_none (taken k e ∷ u) n = absurd (cons≢nil (rw (same_refl k) at (n k)))

  sum_same : (t u : List Slot) → ((h : Bytes) → length (under_slots h t) ≤ 1) → ((h : Bytes) → under_slots h t ≡ under_slots h u) → sum f t ≡ sum f u
  sum_same [] u o a = sym (sum_none u (λ h. sym (a h)))
  sum_same (empty ∷ t) u o a = omega (arith, z, sum_same t u o a)
  sum_same (taken h e ∷ t) u o a = go (find h u) (find_looked h u (rw (← (a h)) (o h))) (found_is h u) (λ v. sum_same t v (λ k. fewer k (taken h e) t (o k)))
    where
      none_after : under_slots h t ≡ []
      none_after = no_length (under_slots h t) (omega (arith, rw (same_refl h) at (o h)))

      first : under_slots h u ≡ e ∷ []
      first = sym (a h) ∙ rw (same_refl h, none_after)

      go : (x : Found) → Looked h u x → FoundIs h u x → ((v : List Slot) → ((k : Bytes) → under_slots k t ≡ under_slots k v) → sum f t ≡ sum f v) → f (taken h e) + sum f t ≡ sum f u
      go absent p q ih = absurd (cons≢nil (sym first ∙ p))
      go (one j d) p q ih = rw (head-eq_of_cons-eq (sym first ∙ p.0)) (omega (arith, ih (set u j empty) rest, sum_at u j (taken h d) q))
        where
          rest : (k : Bytes) → under_slots k t ≡ under_slots k (set u j empty)
          rest k = split k h
              (λ q. rw (q, none_after) (sym (p.2 h ∙ rw (same_refl h))))
              (λ q. sym (p.2 k ∙ rw (q, ← (a k), q)))

-- ---- the tally: what is counted of records is the same, and so is what is left of as many slots
pub same_records_tally : {t u : List Slot} → Like t u → tally_of t ≡ tally_of u
same_records_tally {t} {u} a = rw (sums t, sums u) λ k.
    tally_with
    (empties k)
    (counted (λ s. (in_slot s).reserved) refl k)
    (counted (λ s. (in_slot s).enabled) refl k)
    (counted (λ s. (in_slot s).disabled) refl k)
    (counted (λ s. (in_slot s).payload) refl k)
  where
    counted : (f : Slot → ℕ) → f empty ≡ 0 → sum f t ≡ sum f u
    counted f z = sum_same f z t u a.once a.records.each

    empties : sum (λ s. (in_slot s).empty) t ≡ sum (λ s. (in_slot s).empty) u
    empties =
        omega (
          arith,
          rw (sums t) at (counts_all t),
          rw (sums u) at (counts_all u),
          counted (λ s. (in_slot s).reserved) refl,
          counted (λ s. (in_slot s).enabled) refl,
          counted (λ s. (in_slot s).disabled) refl,
          a.records.as_many,
        )

-- ---- room for a setup: how many slots are taken
held : Slot → ℕ
held empty = 0
held (taken h e) = 1

held_most : (t : List Slot) → sum held t ≤ length t
unfolding held
held_most [] = omega arith
held_most (empty ∷ t) = omega (arith, held_most t)
held_most (taken h e ∷ t) = omega (arith, held_most t)

held_full : (t : List Slot) → Full t → sum held t ≡ length t
unfolding held
held_full [] full = refl
held_full (empty ∷ t) full = absurd (full 0 refl)
held_full (taken h e ∷ t) full = omega (arith, held_full t (λ i. full (suc i)))

held_room : {t : List Slot} {i : ℕ} → EmptyAt t i → sum held t < length t
unfolding held
held_room (here {t = t}) = omega (arith, held_most t)
held_room (there {s = empty} z) = omega (arith, held_room z)
held_room (there {s = taken h e} z) = omega (arith, held_room z)

-- the slot that a setup takes: an empty one, whichever, or none where every slot is taken
pub record Place (free : ℕ) (t : List Slot) : Type 0 where
  pub is_free : Free free t
  pub none_free : length t ≤ free → Full t

pub first_place : (start : ℕ) (t : List Slot) → start < length t → Place (first_empty_from start t) t
first_place start t inside =
    record { is_free = first_free start t inside; none_free = λ h. (none_empty start t inside).0 (omega (arith, h, first_most start t inside)) }

-- ---- answers alike: both refuse with one status, both give the same, or both give a list
pub data Alike : Request → Answer → Answer → Type 0 where
  both_deny : {q : Request} {r : Refusal} → Alike q (deny r) (deny r)
  both_give : {q : Request} {g : Given} {t u : List Slot} → Alike q (done g t) (done g u)
  both_list : {limit : ℕ} {q : List Bytes} {g k : Given} {t u : List Slot} → Alike (list limit q) (done g t) (done k u)

module _ {t u : List Slot} (a : Like t u) where
  same_use : (h : Bytes) → in_use h t ≡ in_use h u
  same_use h = go (in_use h t) (in_use h u) refl refl
    where
      go : (b c : Bool) → in_use h t ≡ b → in_use h u ≡ c → b ≡ c
      go true true p q = refl
      go true false p q = sym p ∙ not_in_use_lem h t (a.records.each h ∙ not_in_use h u q)
      go false true p q = sym (not_in_use_lem h u (sym (a.records.each h) ∙ not_in_use h t p)) ∙ q
      go false false p q = refl

  not_full : {i : ℕ} → EmptyAt u i → Full t → ⊥
  unfolding held
  not_full z full = omega (arith, held_full t full, sum_same held refl t u a.once a.records.each, held_room z, a.records.as_many)

  found : {q : Request} (h : Bytes) (f g : ℕ → Entry → Answer) → ((i j : ℕ) (e : Entry) → Alike q (f i e) (g j e)) → Alike q (when_found (find h t) f) (when_found (find h u) g)
  found {q} h f g k = go (find h t) (find h u) (find_looked h t (a.once h)) (find_looked h u ((like_back a).once h))
    where
      go : (x y : Found) → Looked h t x → Looked h u y → Alike q (when_found x f) (when_found y g)
      go absent absent p q = both_deny
      go absent (one j d) p q = absurd (cons≢nil (sym q.0 ∙ sym (a.records.each h) ∙ p))
      go (one i e) absent p q = absurd (cons≢nil (sym p.0 ∙ a.records.each h ∙ q))
      go (one i e) (one j d) p q = rw (head-eq_of_cons-eq (sym q.0 ∙ sym (a.records.each h) ∙ p.0)) (k i j e)

  -- ---- kind by kind
  installs : (h : Bytes) (r : Right) {q : Request} (i j : ℕ) (e : Entry) → Alike q (install_at t h r i e) (install_at u h r j e)
  installs h r {q} i j (reserved n) = if_two (Alike q) (ltb n (length r.payload)) both_deny (λ _. both_give)
  installs h r i j (enabled s) = both_deny
  installs h r i j (disabled s) = both_deny

  lends : (k : Bytes) (give : Right → Given) {q : Request} (i j : ℕ) (e : Entry) → Alike q (lend_at t k give i e) (lend_at u k give j e)
  lends k give i j (reserved n) = both_deny
  lends k give {q} i j (enabled r) = rw (same_use k) (if_two (Alike q) (in_use k u) both_deny (λ _. both_give))
  lends k give i j (disabled r) = both_deny

  enables : (h : Bytes) (c : Count) {q : Request} (i j : ℕ) (e : Entry) → Alike q (enable_at t h c i e) (enable_at u h c j e)
  enables h c i j (reserved n) = both_deny
  enables h c i j (enabled r) = both_give
  enables h c {q} i j (disabled r) = if_two (Alike q) (raises r.count c) both_deny (λ _. both_give)

  removes : {q : Request} (i j : ℕ) (e : Entry) → Alike q (remove_at t i e) (remove_at u j e)
  removes i j (reserved n) = both_deny
  removes i j (enabled r) = both_give
  removes i j (disabled r) = both_give

  cancels : {q : Request} (i j : ℕ) (e : Entry) → Alike q (cancel_at t i e) (cancel_at u j e)
  cancels i j (reserved n) = both_give
  cancels i j (enabled r) = both_deny
  cancels i j (disabled r) = both_deny

  tells : {q : Request} (i j : ℕ) (e : Entry) → Alike q (info_at t i e) (info_at u j e)
  tells i j (reserved n) = both_deny
  tells i j (enabled r) = both_give
  tells i j (disabled r) = both_deny

module _ {t u : List Slot} (a : Like t u) {x y : ℕ} (p : Place x t) (q : Place y u) where
  same_room : leb (length t) x ≡ leb (length u) y
  same_room = go (leb (length t) x) (leb (length u) y) refl refl
    where
      go : (b c : Bool) → leb (length t) x ≡ b → leb (length u) y ≡ c → b ≡ c
      go true true e f = refl
      go true false e f = absurd (not_full a (q.is_free (leb_over (length u) y f)) (p.none_free (leb_le (length t) x e)))
      go false true e f = absurd (not_full (like_back a) (p.is_free (leb_over (length t) x e)) (q.none_free (leb_le (length u) y f)))
      go false false e f = refl

  sets_up : (h : Bytes) (n : ℕ) → Alike (setup h n) (act x t (setup h n)) (act y u (setup h n))
  unfolding act
  sets_up h n =
      rw (same_use a h, same_room)
      (if_two (Alike (setup h n)) (eqb n 0) both_deny λ _.
      if_two (Alike (setup h n)) (in_use h u) both_deny λ _.
      if_two (Alike (setup h n)) (ltb 4096 n || leb (length u) y) both_deny λ _. both_give)

  pub alike : (q : Request) → Alike q (act x t q) (act y u q)
  unfolding act
  alike (setup h n) = sets_up h n
  alike (install h r) = found a h (install_at t h r) (install_at u h r) (installs a h r)
  alike (retrieve h k) = found a h (lend_at t k the_right) (lend_at u k the_right) (lends a k the_right)
  alike (rek h k) = found a h (lend_at t k (λ r. the_key r.key)) (lend_at u k (λ r. the_key r.key)) (lends a k (λ r. the_key r.key))
  alike (enable h c) = found a h (enable_at t h c) (enable_at u h c) (enables a h c)
  alike (remove h) = found a h (remove_at t) (remove_at u) (removes a)
  alike (cancel h) = found a h (cancel_at t) (cancel_at u) (cancels a)
  alike (list limit q) = both_list
  alike (info h) = found a h (info_at t) (info_at u) (tells a)

-- ---- lists
length_listed : (q : List Bytes) (t : List Slot) → length (listed q t) ≡ sum (λ s. length (listed_slot q s)) t
length_listed q [] = refl
length_listed q (s ∷ t) = length-append (listed_slot q s) (listed q t) ∙ ap (λ (n : ℕ). length (listed_slot q s) + n) (length_listed q t)

module _ {t u : List Slot} (a : Like t u) (q : List Bytes) where
  pub as_many_listed : length (listed q t) ≡ length (listed q u)
  as_many_listed = length_listed q t ∙ sum_same (λ s. length (listed_slot q s)) refl t u a.once a.records.each ∙ sym (length_listed q u)

  -- what the one has to show, the other has
  pub shown_too : (h : Bytes) → In h (listed q t) → Shown q u h
  shown_too h m =
      let w = (listed_exact q t h).0 m in
      let i = there_only u h (enabled w.right) (sym (a.records.each h) ∙ only_there t h (enabled w.right) (a.once h) (w.slot, w.stands)) in
      record { slot = i.0; right = w.right; stands = i.1; asked = w.asked }

  pub listed_too : (h : Bytes) → In h (listed q t) → In h (listed q u)
  listed_too h m = (listed_exact q u h).1 (shown_too h m)
