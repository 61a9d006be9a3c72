-- The report and the number, of which the first i slots are in. Assumes nothing.
use Prim.Native.Nat.{ℕ, zero, suc, ◌+◌, ◌≤◌, ◌<◌}
use mathlib.Core.Path.{◌≡◌, refl, sym, ap, ◌∙◌}
use mathlib.Core.List.{List, [], ◌∷◌, ◌++◌, map, append-nil}
use mathlib.Core.Option.{some, some-injective}
use native.Mathlib.Omega.{arith}
use native.Mathlib.Nat.{le_of_suc-le-suc, not-suc-le-zero}
use native.Mathlib.Numerals.{add-one}
use lib.ListN.{length, get_or, get_elem?, take, drop, set, length-map}
use lib.Seq.{take_all, length-take-le}
use Rattle.std.proofs.lemmas.List.{drop_all}
use Rattle.profile.specs.Bytes.{Bytes, over}
use Rattle.profile.specs.Table.{slot_count, slot_bytes}
use Rattle.profile.specs.Salvage.{Finding, kept, damaged, repeated, finding_byte, cleared, findings_of, report_of}
use Rattle.profile.proofs.FirstEmpty.{not_there}
use Rattle.profile.proofs.Salvage.{finding_at_lem, length_findings}
use Rattle.tables.proofs.SlotParts.{length_bytes}
use Rattle.salvage.proofs.Leaving.{finding_at}

-- ---- the first i bytes of a report
abbrev write_to : ℕ → List Finding → Bytes → Bytes
write_to zero fs r = r
write_to (suc i) [] r = r
write_to (suc i) (f ∷ fs) [] = []
write_to (suc i) (f ∷ fs) (b ∷ r) = finding_byte f ∷ write_to i fs r

length_write_to : (i : ℕ) (fs : List Finding) (r : Bytes) → length (write_to i fs r) ≡ length r
length_write_to zero fs r = refl
length_write_to (suc i) [] r = refl
length_write_to (suc i) (f ∷ fs) [] = refl
length_write_to (suc i) (f ∷ fs) (b ∷ r) = ap suc (length_write_to i fs r)

set_write_to : (i : ℕ) (fs : List Finding) (r : Bytes) (f : Finding) → get_elem? fs i ≡ some f → i < length r → set (write_to i fs r) i (finding_byte f) ≡ write_to (suc i) fs r
set_write_to i [] r f e h = absurd (not_there e)
set_write_to i (g ∷ fs) [] f e h = absurd (not-suc-le-zero h)
set_write_to zero (g ∷ fs) (b ∷ r) f e h = ap {B = Bytes} (λ (x : Finding). finding_byte x ∷ r) (sym (some-injective g f e))
set_write_to (suc i) (g ∷ fs) (b ∷ r) f e h = ap {B = Bytes} (λ (x : Bytes). finding_byte g ∷ x) (set_write_to i fs r f e (le_of_suc-le-suc h))

all_write_to : (i : ℕ) (fs : List Finding) (r : Bytes) → length fs ≤ i → length fs ≤ length r → write_to i fs r ≡ map finding_byte fs ++ drop (length (map finding_byte fs)) r
all_write_to zero [] r h k = refl
all_write_to zero (f ∷ fs) r h k = absurd (not-suc-le-zero h)
all_write_to (suc i) [] r h k = refl
all_write_to (suc i) (f ∷ fs) [] h k = absurd (not-suc-le-zero k)
all_write_to (suc i) (f ∷ fs) (b ∷ r) h k = ap {B = Bytes} (λ (x : Bytes). finding_byte f ∷ x) (all_write_to i fs r (le_of_suc-le-suc h) (le_of_suc-le-suc k))

-- ---- how many of the first i are cleared
take_cleared : (i : ℕ) (fs : List Finding) (f : Finding) → get_elem? fs i ≡ some f → cleared (take (suc i) fs) ≡ cleared (take i fs) + cleared (f ∷ [])
take_cleared i [] f e = absurd (not_there e)
take_cleared zero (g ∷ fs) f e = ap (λ (x : Finding). cleared (x ∷ [])) (some-injective g f e) ∙ omega arith
take_cleared (suc i) (kept ∷ fs) f e = take_cleared i fs f e
take_cleared (suc i) (damaged ∷ fs) f e = omega (arith, take_cleared i fs f e)
take_cleared (suc i) (repeated ∷ fs) f e = omega (arith, take_cleared i fs f e)

few_taken : (i : ℕ) (fs : List Finding) → cleared (take i fs) ≤ i
few_taken zero fs = omega arith
few_taken (suc i) [] = omega arith
few_taken (suc i) (kept ∷ fs) = omega (arith, few_taken i fs)
few_taken (suc i) (damaged ∷ fs) = omega (arith, few_taken i fs)
few_taken (suc i) (repeated ∷ fs) = omega (arith, few_taken i fs)

-- ---- of a table
unfoldable pub reported_to : ℕ → Bytes → Bytes → Bytes
reported_to i t r = write_to i (findings_of t) r

unfoldable pub cleared_to : ℕ → Bytes → ℕ
cleared_to i t = cleared (take i (findings_of t))

pub reported_none : (t r : Bytes) → r ≡ reported_to 0 t r
unfolding reported_to
reported_none t r = refl

pub cleared_none : (t : Bytes) → 0 ≡ cleared_to 0 t
unfolding cleared_to
cleared_none t = refl

pub reported_length : (i : ℕ) (t r : Bytes) → length (reported_to i t r) ≡ length r
unfolding reported_to
reported_length i t r = length_write_to i (findings_of t) r

pub few_to : (i : ℕ) (t : Bytes) → cleared_to i t ≤ i
unfolding cleared_to
few_to i t = few_taken i (findings_of t)

some_at : (ps : List Bytes) (i : ℕ) → i < length ps → get_elem? ps i ≡ some (get_or ps i [])
some_at [] i h = absurd (not-suc-le-zero h)
some_at (p ∷ ps) zero h = refl
some_at (p ∷ ps) (suc i) h = some_at ps i (le_of_suc-le-suc h)

module _ (t : Bytes) where
  count : length (findings_of t) ≡ slot_count t
  unfolding findings_of
  count = length_findings [] (slot_bytes t) ∙ length_bytes t

  module _ (i : ℕ) (h : i < slot_count t) where
    found_at : get_elem? (findings_of t) i ≡ some (finding_at i t)
    unfolding findings_of finding_at
    found_at = finding_at_lem i [] (slot_bytes t) (get_or (slot_bytes t) i []) (some_at (slot_bytes t) i (rw (length_bytes t) h))

    pub reported_more : (r : Bytes) (f : Finding) (b : ℕ) → i < length r → f ≡ finding_at i t → b ≡ finding_byte f → set (reported_to i t r) i b ≡ reported_to (i + 1) t r
    unfolding reported_to
    reported_more r f b k e told = rw (told, e, add-one) (set_write_to i (findings_of t) r (finding_at i t) found_at k)

    pub cleared_next : (f : Finding) (n m : ℕ) → f ≡ finding_at i t → n ≡ cleared_to i t → m ≡ n + cleared (f ∷ []) → m ≡ cleared_to (i + 1) t
    unfolding cleared_to
    cleared_next f n m e at p =
        p ∙ rw (at, e, add-one i) (sym (take_cleared i (findings_of t) (finding_at i t) found_at))

  -- the front of the report buffer has a byte for each slot
  module _ (r : Bytes) (i : ℕ) (room : slot_count t ≤ length r) where
    front : length (take (slot_count t) r) ≡ slot_count t
    front = length-take-le (slot_count t) r room

    pub passed_below : i < length (take (slot_count t) r) → i < slot_count t
    passed_below h = rw front at h

    pub passed_all : length (take (slot_count t) r) ≤ i → slot_count t ≤ i
    passed_all h = rw front at h

  pub reported_all : (i : ℕ) (r : Bytes) → slot_count t ≤ i → slot_count t ≤ length r → (p : Bytes) → p ≡ reported_to i t (take (slot_count t) r)
      → p ++ drop (slot_count t) r ≡ over (report_of t) r
  unfolding reported_to over report_of
  reported_all i r h room p e =
      let n = slot_count t in
      let front : length (take n r) ≡ n = length-take-le n r room in
      let bytes : length (map finding_byte (findings_of t)) ≡ n = length-map (findings_of t) finding_byte ∙ count in
      let none : drop (length (map finding_byte (findings_of t))) (take n r) ≡ [] = drop_all (length (map finding_byte (findings_of t))) (take n r) (omega arith) in
      let all : p ≡ map finding_byte (findings_of t) =
      e ∙ all_write_to i (findings_of t) (take n r) (rw count h) (omega (arith, count)) ∙ rw none (append-nil (map finding_byte (findings_of t))) in
      rw (all, bytes)

  pub cleared_all : (i : ℕ) → slot_count t ≤ i → cleared_to i t ≡ cleared (findings_of t)
  unfolding cleared_to
  cleared_all i h = ap cleared (take_all i (findings_of t) (rw count h))
