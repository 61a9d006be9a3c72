-- The slots of a table, of which the first i are settled. Assumes nothing.
use Prim.Native.Nat.{ℕ, zero, suc, ◌+◌, ◌*◌, ◌≤◌, ◌<◌}
use mathlib.Core.Path.{◌≡◌, refl, sym, ap, ap₂, ◌∙◌}
use mathlib.Core.List.{List, [], ◌∷◌, map}
use mathlib.Core.Bool.{Bool, true, false, ◌||◌, false≢true}
use native.Mathlib.Omega.{arith}
use native.Mathlib.Nat.{le_of_suc-le-suc, not-suc-le-zero}
use native.Mathlib.Numerals.{add-one}
use lib.ListN.{length, get_or, take, set}
use lib.Seq.{take_all}
use Rattle.profile.specs.Bytes.{Bytes, joined, Each}
use Rattle.profile.specs.Slot.{Slot, empty, taken, named, in_use}
use Rattle.profile.specs.Table.{unpack, slot_count, slot_bytes, slots_of, whole_slots}
use Rattle.profile.specs.Salvage.{Finding, mended, repeats, judge, findings, left_by, left_slots, findings_of, left_of}
use Rattle.profile.proofs.Logic.{same_eq}
use Rattle.profile.proofs.Strings.{length_each, joined_pieces}
use Rattle.profile.proofs.WholeSlots.{slots_joined, size, cut}
use Rattle.profile.proofs.Salvage.{by_judge, mended_well, mended_not, length_left, unpack_zeros, lower_to}
use Rattle.tables.proofs.SlotParts.{length_bytes}
use Rattle.salvage.specs.Salvages.{found_at, Settled}

-- ---- the first i slots settled
abbrev pub left_to : ℕ → List Slot → List Bytes → List Bytes
left_to zero lower ps = ps
left_to (suc i) lower [] = []
left_to (suc i) lower (p ∷ ps) = left_by (judge lower p) p ∷ left_to i (mended p ∷ lower) ps

length_left_to : (i : ℕ) (lower : List Slot) (ps : List Bytes) → length (left_to i lower ps) ≡ length ps
length_left_to zero lower ps = refl
length_left_to (suc i) lower [] = refl
length_left_to (suc i) lower (p ∷ ps) = ap suc (length_left_to i (mended p ∷ lower) ps)

each_left_to : (i : ℕ) (lower : List Slot) (ps : List Bytes) → Each 4288 ps → Each 4288 (left_to i lower ps)
each_left_to zero lower ps e = e
each_left_to (suc i) lower [] e = tt
each_left_to (suc i) lower (p ∷ ps) e = (length_left (judge lower p) p e.0, each_left_to i (mended p ∷ lower) ps e.1)

-- slot i is as it was, and settled it is one more
next_left : (i : ℕ) (lower : List Slot) (ps : List Bytes) → get_or (left_to i lower ps) i [] ≡ get_or ps i []
next_left zero lower ps = refl
next_left (suc i) lower [] = refl
next_left (suc i) lower (p ∷ ps) = next_left i (mended p ∷ lower) ps

set_left : (i : ℕ) (lower : List Slot) (ps : List Bytes) → i < length ps
    → set (left_to i lower ps) i (left_by (judge (lower_to i lower ps) (get_or ps i [])) (get_or ps i [])) ≡ left_to (suc i) lower ps
set_left i lower [] h = absurd (not-suc-le-zero h)
set_left zero lower (p ∷ ps) h = refl
set_left (suc i) lower (p ∷ ps) h = ap {B = List Bytes} (λ r. left_by (judge lower p) p ∷ r) (set_left i (mended p ∷ lower) ps (le_of_suc-le-suc h))

all_left : (i : ℕ) (lower : List Slot) (ps : List Bytes) → length ps ≤ i → left_to i lower ps ≡ left_slots (findings lower ps) ps
all_left zero lower [] h = refl
all_left zero lower (p ∷ ps) h = absurd (not-suc-le-zero h)
all_left (suc i) lower [] h = refl
all_left (suc i) lower (p ∷ ps) h = ap {B = List Bytes} (λ r. left_by (judge lower p) p ∷ r) (all_left i (mended p ∷ lower) ps (le_of_suc-le-suc h))

-- ---- a handle that stood in one of the first i slots, damaged ones left out, still stands in one: of those with one handle the lowest is kept
moved : (a x b : Bool) → ((a || x) || b) ≡ (x || (a || b))
moved true true b = refl
moved true false b = refl
moved false x b = refl

absorbed : (n x b : Bool) → (n ≡ true → b ≡ true) → (x || b) ≡ (x || (n || b))
absorbed true true b f = refl
absorbed true false b f = f refl
absorbed false x b f = refl

named_lower : (h : Bytes) (lower : List Slot) (s : Slot) → repeats lower s ≡ true → named h s ≡ true → in_use h lower ≡ true
named_lower h lower empty r n = absurd (false≢true n)
named_lower h lower (taken k e) r n = ap (λ (x : Bytes). in_use x lower) (same_eq h k n) ∙ r

in_use_left : (i : ℕ) (lower : List Slot) (ps : List Bytes) (h : Bytes) → (in_use h (take i (map unpack (left_to i lower ps))) || in_use h lower) ≡ in_use h (lower_to i lower ps)
in_use_left zero lower ps h = refl
in_use_left (suc i) lower [] h = refl
in_use_left (suc i) lower (p ∷ ps) h = one ∙ in_use_left i (mended p ∷ lower) ps h
  where
    x : Bool
    x = in_use h (take i (map unpack (left_to i (mended p ∷ lower) ps)))

    one : ((named h (unpack (left_by (judge lower p) p)) || in_use h (take i (map unpack (left_to i (mended p ∷ lower) ps)))) || in_use h lower)
        ≡ (in_use h (take i (map unpack (left_to i (mended p ∷ lower) ps))) || (named h (mended p) || in_use h lower))
    one =
        by_judge
        (λ f. ((named h (unpack (left_by f p)) || in_use h (take i (map unpack (left_to i (mended p ∷ lower) ps)))) || in_use h lower)
        ≡ (in_use h (take i (map unpack (left_to i (mended p ∷ lower) ps))) || (named h (mended p) || in_use h lower)))
        lower p
        (λ e. ap (λ (s : Slot). (named h s || in_use h (take i (map unpack (left_to i (mended p ∷ lower) ps)))) || in_use h lower) unpack_zeros
        ∙ absorbed (named h (mended p)) (in_use h (take i (map unpack (left_to i (mended p ∷ lower) ps)))) (in_use h lower) (λ n. absurd (false≢true (rw (mended_not p e) at n))))
        (λ e r. ap (λ (s : Slot). (named h s || in_use h (take i (map unpack (left_to i (mended p ∷ lower) ps)))) || in_use h lower) unpack_zeros
        ∙ absorbed (named h (mended p)) (in_use h (take i (map unpack (left_to i (mended p ∷ lower) ps)))) (in_use h lower)
        (λ n. named_lower h lower (unpack p) r (rw (mended_well p e) at n)))
        (λ e r. ap (λ (s : Slot). (named h s || in_use h (take i (map unpack (left_to i (mended p ∷ lower) ps)))) || in_use h lower) (sym (mended_well p e))
        ∙ moved (named h (mended p)) (in_use h (take i (map unpack (left_to i (mended p ∷ lower) ps)))) (in_use h lower))

or_none : (b : Bool) → (b || false) ≡ b
or_none true = refl
or_none false = refl

-- so beside them slot i is found to be what it is found to be
repeats_by : (a b : List Slot) (s : Slot) → ((h : Bytes) → in_use h a ≡ in_use h b) → repeats a s ≡ repeats b s
repeats_by a b empty f = refl
repeats_by a b (taken h e) f = f h

judge_by : (a b : List Slot) (s : Bytes) → ((h : Bytes) → in_use h a ≡ in_use h b) → judge a s ≡ judge b s
judge_by a b s f = rw (repeats_by a b (unpack s) f)

pub same_finding : (i : ℕ) (ps : List Bytes) (s : Bytes) → judge (take i (map unpack (left_to i [] ps))) s ≡ judge (lower_to i [] ps) s
same_finding i ps s = judge_by (take i (map unpack (left_to i [] ps))) (lower_to i [] ps) s (λ h. sym (or_none (in_use h (take i (map unpack (left_to i [] ps))))) ∙ in_use_left i [] ps h)

-- ---- a table, its first i slots settled
unfoldable pub settled_to : ℕ → Bytes → Bytes
settled_to i t = joined (left_to i [] (slot_bytes t))

-- what is found of slot i
unfoldable pub finding_at : ℕ → Bytes → Finding
finding_at i t = judge (lower_to i [] (slot_bytes t)) (get_or (slot_bytes t) i [])

module _ (t : Bytes) (whole : whole_slots t ≡ true) where
  slots_now : (i : ℕ) → slot_bytes (settled_to i t) ≡ left_to i [] (slot_bytes t)
  unfolding settled_to
  slots_now i = slots_joined (left_to i [] (slot_bytes t)) (each_left_to i [] (slot_bytes t) (cut t whole))

  pub settled_length : (i : ℕ) → length (settled_to i t) ≡ length t
  unfolding settled_to
  settled_length i =
      length_each 4288 (left_to i [] (slot_bytes t)) (each_left_to i [] (slot_bytes t) (cut t whole))
      ∙ rw (length_left_to i [] (slot_bytes t), length_bytes t) (sym (size t whole))

  pub settled_whole : (i : ℕ) → whole_slots (settled_to i t) ≡ true
  unfolding whole_slots
  settled_whole i = rw (settled_length i) whole

  pub settled_none : t ≡ settled_to 0 t
  unfolding settled_to slot_bytes
  settled_none = sym (joined_pieces 4288 (slot_count t) t ∙ take_all (4288 * slot_count t) t (omega (arith, size t whole)))

  pub settled_all : (i : ℕ) → slot_count t ≤ i → settled_to i t ≡ left_of t
  unfolding settled_to left_of findings_of
  settled_all i h = ap joined (all_left i [] (slot_bytes t) (rw (length_bytes t) h))

  module _ (i : ℕ) (h : i < slot_count t) where
    -- what is found of slot i now is what was to be found of it
    found_now : found_at i (settled_to i t) ≡ finding_at i t
    unfolding finding_at slots_of
    found_now =
        rw (slots_now i, next_left i [] (slot_bytes t)) (same_finding i (slot_bytes t) (get_or (slot_bytes t) i []))

    slot_now : get_or (slot_bytes (settled_to i t)) i [] ≡ get_or (slot_bytes t) i []
    slot_now = ap (λ (ps : List Bytes). get_or ps i []) (slots_now i) ∙ next_left i [] (slot_bytes t)

    module _ (v : Bytes) (now-is : v ≡ settled_to i t) (found : Finding) (u : Bytes) (s : Settled i v found u) where
      settled : Settled i (settled_to i t) found u
      settled = rw now-is at s

      pub found_is : found ≡ finding_at i t
      found_is = settled.found_is ∙ found_now

      pub settled_more : u ≡ settled_to (i + 1) t
      unfolding settled_to finding_at
      settled_more =
          rw add-one
          (settled.left_is
          ∙ ap joined
          (ap₂ (λ (ps : List Bytes) (z : Bytes). set ps i z) (slots_now i) (ap₂ (λ (f : Finding) (z : Bytes). left_by f z) found_now slot_now)
          ∙ set_left i [] (slot_bytes t) (rw (length_bytes t) h)))
