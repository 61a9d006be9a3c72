-- What a decision on the record under a handle says of the agent's answer, and of the record's slot. Assumes nothing.
use Prim.Native.Nat.{ℕ, ◌*◌, ◌<◌}
use mathlib.Core.Path.{◌≡◌, refl, sym, ap, ◌∙◌}
use mathlib.Core.List.{List}
use mathlib.Core.Bool.{Bool, true, false, false≢true, true≢false}
use native.Mathlib.Omega.{arith}
use mathlib.Core.Option.{some}
use lib.ListN.{length, drop, set, get_elem?}
use Rattle.std.specs.Prelude.{Option, Some, None, Result, Ok, Err}
use Rattle.std.specs.Option.{ok_or}
use Rattle.codes.specs.declared.refusal.Refusal.{Refusal}
use Rattle.codes.specs.declared.refusal.Refusal.TheVariants.{HandleNotFound, UnexpectedRequest}
use Rattle.codes.specs.Codes.{refusal_meant}
use Rattle.profile.specs.Bytes.{Bytes, part, Bytes256}
use Rattle.profile.specs.Sizes.{slot_size, payload_at}
use Rattle.profile.specs.Slot.{Count, Right, recount, Entry, reserved, enabled, disabled, Slot, empty, taken}
use Rattle.profile.specs.Table.{place_of, handle_of, count_of, length_of, right_of, slot_count, slots_of}
use Rattle.profile.specs.Frame.{unexpected}
use Rattle.profile.specs.Agent.{Answer, deny, one, find, when_found}
use Rattle.profile.proofs.Strings.{bytes_take, bytes_drop, length_part}
use Rattle.profile.proofs.Laws.{found_is}
use Rattle.slots.specs.declared.place.Place.{Place}
use Rattle.slots.specs.declared.place.Place.TheVariants.{Empty, Reserved, Enabled, Disabled}
use Rattle.tables.specs.declared.lookup.Record.{Record}
use Rattle.slots.specs.Places.{place_number, place_of_entry}
use Rattle.tables.specs.LookUp.{found_at}
use Rattle.tables.proofs.SlotParts.{get_d_slots}
use Rattle.slots.proofs.Unpacking.{empty_taken, same_handle, unpack_empty, unpack_taken}
use Rattle.tables.proofs.Records.{Standing, RecordAt, RecordFits, entry_of, absent_found, at_stands, record_at, record_fits, none_empty}
use Rattle.changes.specs.Change.{slot_at, Has}
use Rattle.changes.proofs.Standing.{taken_place}
use Rattle.tallies.specs.declared.update.Change.TheVariants.{Moved, Returned}
use Rattle.tallies.specs.Changes.{place_in, length_in, moved_lent, change_in}
use Rattle.tallies.proofs.Changing.{one_moved}
use Rattle.decisions.specs.Decisions.{awaited, lendable, decided, unless}
use Rattle.decisions.specs.Serving.{Ready}

-- ---- decided: Ok is not Err, and either says what it holds
ok_err : {A E : Type 0} {a : A} {e : E} → Ok a ≡ Err e → ⊥
ok_err q = let z : ◌≡◌ {A = Bool} true false = cc in absurd (true≢false z)

err_is : {A E : Type 0} {d e : E} → ◌≡◌ {A = Result A E} (Err d) (Err e) → d ≡ e
err_is q = cc

ok_is : {A E : Type 0} {a b : A} → ◌≡◌ {A = Result A E} (Ok a) (Ok b) → a ≡ b
ok_is q = cc

-- ---- step by step: the look-up, and then the place
module _ (l : Option Record) (m : Result Record Refusal) (found : m ≡ ok_or l HandleNotFound) where
  as_found : (n : Option Record) → l ≡ n → m ≡ ok_or n HandleNotFound
  as_found n q = found ∙ ap (λ (o : Option Record). ok_or o HandleNotFound) q

  pub none_decided : (w : Place → Bool) (x : Refusal) → m ≡ Err x → Err x ≡ decided w l
  unfolding decided
  none_decided w x e = go l refl
    where
      go : (n : Option Record) → l ≡ n → Err x ≡ decided w n
      go None q = sym e ∙ as_found None q
      go (Some r) q = absurd (ok_err (sym (as_found (Some r) q) ∙ e))

  pub found_record : (r : Record) → m ≡ Ok r → l ≡ Some r
  found_record r e = go l refl
    where
      go : (n : Option Record) → l ≡ n → l ≡ Some r
      go None q = absurd (ok_err (sym e ∙ as_found None q))
      go (Some s) q = q ∙ ap Some (ok_is (sym (as_found (Some s) q) ∙ e))

  module _ (w : Place → Bool) (r : Record) (e : m ≡ Ok r) (b : Bool) (test : b ≡ w r.place) where
    pub taken_decided : b ≡ true → Ok r ≡ decided w l
    unfolding decided
    taken_decided q = rw (found_record r e, ← test, q)

    pub other_decided : b ≡ false → Err UnexpectedRequest ≡ decided w l
    unfolding decided
    other_decided q = rw (found_record r e, ← test, q)

-- at the places that a request does not take, it is refused with 6
abbrev pub Expects : (Place → Bool) → (ℕ → Entry → Answer) → Type 0
Expects w f = (i : ℕ) (e : Entry) → w (place_of_entry e) ≡ false → f i e ≡ deny unexpected

pub expects : (w : Place → Bool) (f : ℕ → Entry → Answer)
    → (w Reserved ≡ false → (i n : ℕ) → f i (reserved n) ≡ deny unexpected)
    → (w Enabled ≡ false → (i : ℕ) (r : Right) → f i (enabled r) ≡ deny unexpected)
    → (w Disabled ≡ false → (i : ℕ) (r : Right) → f i (disabled r) ≡ deny unexpected) → Expects w f
expects w f a b c i (reserved n) q = a q i n
expects w f a b c i (enabled r) q = b q i r
expects w f a b c i (disabled r) q = c q i r

-- ---- refused
module _ (h : Bytes) (u : List Slot) (w : Place → Bool) (f : ℕ → Entry → Answer) where
  pub refuses : Expects w f → (x : Refusal) → decided w (found_at (find h u)) ≡ Err x → when_found (find h u) f ≡ deny (refusal_meant x)
  unfolding decided
  refuses x e q = go (found_at (find h u)) refl q
    where
      placed : (r : Record) (b : Bool) → found_at (find h u) ≡ Some r → w r.place ≡ b → decided w (Some r) ≡ Err e → when_found (find h u) f ≡ deny (refusal_meant e)
      placed r true l t q = absurd (ok_err (rw t at q))
      placed r false l t q =
          let s : Standing h u r.at r.place = at_stands h u r l in
          rw s.found (x r.at s.entry (ap w s.placed ∙ t)) ∙ ap (λ y. deny (refusal_meant y)) (err_is (rw t at q))

      go : (l : Option Record) → found_at (find h u) ≡ l → decided w l ≡ Err e → when_found (find h u) f ≡ deny (refusal_meant e)
      go None l q = rw (absent_found h u l) (ap (λ y. deny (refusal_meant y)) (err_is q))
      go (Some r) l q = placed r (w r.place) l refl q

-- ---- not refused: the record was found, at a place that the request takes
module _ (h : Bytes) (u : List Slot) (w : Place → Bool) (o : Record) where
  pub stands : decided w (found_at (find h u)) ≡ Ok o → (found_at (find h u) ≡ Some o) × (w o.place ≡ true)
  unfolding decided
  stands d = go (found_at (find h u)) refl d
    where
      placed : (r : Record) (b : Bool) → found_at (find h u) ≡ Some r → w r.place ≡ b → decided w (Some r) ≡ Ok o → (found_at (find h u) ≡ Some o) × (w o.place ≡ true)
      placed r true l t q = let e : r ≡ o = ok_is (rw t at q) in (l ∙ ap Some e, ap (λ (x : Record). w x.place) (sym e) ∙ t)
      placed r false l t q = absurd (ok_err (sym (rw t at q)))

      go : (l : Option Record) → found_at (find h u) ≡ l → decided w l ≡ Ok o → (found_at (find h u) ≡ Some o) × (w o.place ≡ true)
      go None l q = absurd (ok_err (sym q))
      go (Some r) l q = placed r (w r.place) l refl q

-- the slot of a record that was found, by its bytes
pub record Held (T h : Bytes) (i : ℕ) (p : Place) : Type 0 where
  pub has : Has T i
  pub lent : part (slot_size * i) slot_size T ≡ slot_at T i
  pub place_is : place_of (slot_at T i) ≡ place_number p
  pub handle_is : handle_of (slot_at T i) ≡ h
  pub filled : p ≡ Empty → ⊥
  pub fits : RecordFits (slot_at T i)
  pub found : find h (slots_of T) ≡ one i (entry_of p (slot_at T i))

module _ (T B h : Bytes) (bytes : Bytes256 T) (r : Ready T B) (i : ℕ) where
  abbrev s : Bytes
  s = part (slot_size * i) slot_size T

  pub held : (p : Place) → found_at (find h (slots_of T)) ≡ Some (record { at = i; place = p }) → Held T h i p
  held p l = record {
    has = record { whole = r.whole; well = r.well; inside = a.below };
    lent = sym there;
    place_is = rw there (number p l);
    handle_is = rw there (same_handle (sym (unpack_taken s not_empty).1 ∙ a.unpacked));
    filled = λ q. none_empty T h i (l ∙ ap (λ (x : Place). Some (record { at = i; place = x })) q);
    fits = rw there (record_fits T h i (entry_of p s) r.well a);
    found = rw there a.found;
  }
    where
      a : RecordAt T h i (entry_of p s)
      a = record_at T h i p l

      there : slot_at T i ≡ s
      there = get_d_slots T i a.below

      not_empty : place_of s ≡ 0 → ⊥
      not_empty z = empty_taken h (entry_of p s) (sym (unpack_empty s z) ∙ a.unpacked)

      s_bytes : Bytes256 s
      s_bytes = bytes_take slot_size (drop (slot_size * i) T) (bytes_drop (slot_size * i) T bytes)

      number : (p : Place) → found_at (find h (slots_of T)) ≡ Some (record { at = i; place = p }) → place_of s ≡ place_number p
      number Empty l = absurd (none_empty T h i l)
      number Reserved l = taken_place s s_bytes h (entry_of Reserved s) (record_at T h i Reserved l).unpacked
      number Enabled l = taken_place s s_bytes h (entry_of Enabled s) (record_at T h i Enabled l).unpacked
      number Disabled l = taken_place s s_bytes h (entry_of Disabled s) (record_at T h i Disabled l).unpacked

-- ---- what changes where the slot of such a record becomes x, at another place
right_length : {s : Bytes} → RecordFits s → length (right_of s).payload ≡ length_of s
right_length {s} f = length_part payload_at (length_of s) s (omega (arith, f.sized, f.long.1))

-- a lent right that comes to no enabled place
lent_to : (r : Right) (x : Slot) → (place_in x ≡ Enabled → ⊥) → moved_lent r x ≡ Moved Disabled (length r.payload) (place_in x) (length_in x)
lent_to r empty n = refl
lent_to r (taken h (reserved m)) n = refl
lent_to r (taken h (enabled q)) n = absurd (n refl)
lent_to r (taken h (disabled q)) n = refl

module _ {T h : Bytes} {i : ℕ} where
  stands_there : {p : Place} → Held T h i p → get_elem? (slots_of T) i ≡ some (taken h (entry_of p (slot_at T i)))
  stands_there w = rw w.found at (found_is h (slots_of T))

  -- but for a right that is returned
  pub moved_from : (p : Place) → Held T h i p → (x : Slot) → (p ≡ Disabled → place_in x ≡ Enabled → ⊥) → (place_number p ≡ place_number (place_in x) → ⊥)
      → Moved p (length_of (slot_at T i)) (place_in x) (length_in x) ≡ change_in (slots_of T) (set (slots_of T) i x)
  moved_from Empty w x stays n = absurd (w.filled refl)
  moved_from Reserved w x stays n = sym (one_moved (slots_of T) i _ x (stands_there w) n)
  moved_from Enabled w x stays n =
      ap (λ (m : ℕ). Moved Enabled m (place_in x) (length_in x)) (sym (right_length w.fits))
      ∙ sym (one_moved (slots_of T) i _ x (stands_there w) n)
  moved_from Disabled w x stays n =
      ap (λ (m : ℕ). Moved Disabled m (place_in x) (length_in x)) (sym (right_length w.fits))
      ∙ sym (lent_to (right_of (slot_at T i)) x (stays refl))
      ∙ sym (one_moved (slots_of T) i _ x (stands_there w) n)

  -- a right that is lent with its payload, under another handle
  pub lent_moves : Held T h i Enabled → (n : ℕ) → n ≡ length_of (slot_at T i) → (k : Bytes)
      → Moved Enabled n Disabled n ≡ change_in (slots_of T) (set (slots_of T) i (taken k (disabled (right_of (slot_at T i)))))
  lent_moves w n e k =
      rw e
      (ap (λ (m : ℕ). Moved Enabled (length_of (slot_at T i)) Disabled m) (sym (right_length w.fits))
      ∙ moved_from Enabled w (taken k (disabled (right_of (slot_at T i)))) (λ q _. omega (arith, ap place_number q)) (λ q. omega (arith, q)))

  -- a right that is returned with its payload, and with another count
  pub return_moves : Held T h i Disabled → (n : ℕ) → n ≡ length_of (slot_at T i) → (stored : Count) → stored ≡ count_of (slot_at T i) → (k : Bytes) (sent : Count)
      → Returned n stored n sent ≡ change_in (slots_of T) (set (slots_of T) i (taken k (enabled (recount sent (right_of (slot_at T i))))))
  return_moves w n e stored f k sent =
      rw (e, f)
      (ap (λ (m : ℕ). Returned m (count_of (slot_at T i)) m sent) (sym (right_length w.fits))
      ∙ sym (one_moved (slots_of T) i _ _ (stands_there w) (λ q. omega (arith, q))))

-- ---- the places that a request takes, where there is one only
only_reserved : (p : Place) → awaited p ≡ true → p ≡ Reserved
only_reserved Empty q = absurd (false≢true q)
only_reserved Reserved q = refl
only_reserved Enabled q = absurd (false≢true q)
only_reserved Disabled q = absurd (false≢true q)

only_enabled : (p : Place) → lendable p ≡ true → p ≡ Enabled
only_enabled Empty q = absurd (false≢true q)
only_enabled Reserved q = absurd (false≢true q)
only_enabled Enabled q = refl
only_enabled Disabled q = absurd (false≢true q)

-- ---- not refused: the record in its slot, at a place that the request takes
module _ (T B h : Bytes) (bytes : Bytes256 T) (r : Ready T B) (o : Record) where
  pub chosen : (w : Place → Bool) → decided w (found_at (find h (slots_of T))) ≡ Ok o → Held T h o.at o.place × (w o.place ≡ true)
  chosen w q = let s = stands h (slots_of T) w o q in (held T B h bytes r o.at o.place s.0, s.1)

  pub chosen_reserved : decided awaited (found_at (find h (slots_of T))) ≡ Ok o → Held T h o.at Reserved
  chosen_reserved q = let s = chosen awaited q in rw (only_reserved o.place s.1) at s.0

  pub chosen_enabled : decided lendable (found_at (find h (slots_of T))) ≡ Ok o → Held T h o.at Enabled
  chosen_enabled q = let s = chosen lendable q in rw (only_enabled o.place s.1) at s.0

-- the slot of a record that was found is one of the table's
pub found_slot : (T h : Bytes) (o : Record) → found_at (find h (slots_of T)) ≡ Some o → (o.at < slot_count T) × (part (slot_size * o.at) slot_size T ≡ slot_at T o.at)
found_slot T h o l =
    let below = (record_at T h o.at o.place l).below in
    (below, sym (get_d_slots T o.at below))

-- and a well-formed table's slot may be changed
pub found_has : (T B h : Bytes) → Ready T B → (o : Record) → found_at (find h (slots_of T)) ≡ Some o → Has T o.at
found_has T B h r o l = record { whole = r.whole; well = r.well; inside = (found_slot T h o l).0 }

-- what is known of a slot's bytes is known of those lent
pub fits_lent : (x s : Bytes) → x ≡ s → RecordFits s → RecordFits x
fits_lent x s e f = rw e f

-- ---- one test more of the record
module _ (test : Record → Bool) (y : Refusal) (d : Result Record Refusal) where
  pub refused_before : (x : Refusal) → d ≡ Err x → Err x ≡ unless test y d
  unfolding unless
  refused_before x e = rw e

  module _ (r : Record) (e : d ≡ Ok r) where
    pub refused_then : test r ≡ true → Err y ≡ unless test y d
    unfolding unless
    refused_then t = rw (e, t)

    pub passed : test r ≡ false → Ok r ≡ unless test y d
    unfolding unless
    passed t = rw (e, t)

  -- what was decided before, and what the test says
  pub unless_refused : {P : Type 0} (x : Refusal) → unless test y d ≡ Err x → (d ≡ Err x → P) → ((r : Record) → d ≡ Ok r → test r ≡ true → y ≡ x → P) → P
  unfolding unless
  unless_refused {P} x e before after = go d refl e
    where
      tested : (r : Record) (b : Bool) → d ≡ Ok r → test r ≡ b → unless test y (Ok r) ≡ Err x → P
      tested r true q t e = after r q t (err_is (rw t at e))
      tested r false q t e = absurd (ok_err (rw t at e))

      go : (c : Result Record Refusal) → d ≡ c → unless test y c ≡ Err x → P
      go (Err m) q e = before (q ∙ e)
      go (Ok r) q e = tested r (test r) q refl e

  pub unless_decided : (o : Record) → unless test y d ≡ Ok o → (test o ≡ false) × (d ≡ Ok o)
  unfolding unless
  unless_decided o e = go d refl e
    where
      tested : (r : Record) (b : Bool) → d ≡ Ok r → test r ≡ b → unless test y (Ok r) ≡ Ok o → (test o ≡ false) × (d ≡ Ok o)
      tested r true q t e = absurd (ok_err (sym (rw t at e)))
      tested r false q t e = let s : r ≡ o = ok_is (rw t at e) in (ap test (sym s) ∙ t, q ∙ ap Ok s)

      go : (c : Result Record Refusal) → d ≡ c → unless test y c ≡ Ok o → (test o ≡ false) × (d ≡ Ok o)
      go (Err n) q e = absurd (ok_err (sym e))
      go (Ok r) q e = tested r (test r) q refl e
