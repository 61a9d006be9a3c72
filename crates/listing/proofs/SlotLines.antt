-- One line, and the lines of a table one after another. Assumes nothing.
use Prim.Native.Nat.{ℕ, suc, ◌+◌, ◌*◌, ◌≤◌, ◌<◌}
use mathlib.Core.Path.{◌≡◌, sym, ap, ◌∙◌}
use mathlib.Core.List.{List, [], ◌∷◌, ◌++◌, append_assoc, append-nil}
use mathlib.Core.Bool.{true}
use native.Mathlib.Omega.{arith}
use native.Mathlib.Nat.{add-zero, zero-add}
use native.Mathlib.Numerals.{add-one}
use lib.ListN.{length, get_or, take, length-append}
use lib.Seq.{take-suc, take_all, length-take-le}
use Rattle.profile.specs.Bytes.{Bytes, joined}
use Rattle.profile.specs.Sizes.{most_slots}
use Rattle.profile.specs.Text.{text}
use Rattle.profile.specs.Slot.{count_number}
use Rattle.profile.specs.Table.{place_of, hash_count_of, count_of, length_of, slot_count, slot_bytes, well_slot}
use Rattle.profile.specs.Listing.{decimal, place_word, line, lines}
use Rattle.profile.proofs.WellFormed.{few_slots}
use Rattle.slots.specs.declared.head.Head.{Head}
use Rattle.slots.specs.Heads.{HeadOf}
use Rattle.slots.specs.Places.{place_number}
use Rattle.tables.proofs.SlotParts.{length_bytes, length_slots, get_d_slots}
use Rattle.slots.proofs.WellSlots.{few_hashes, length_most_4096}
use Rattle.tables.proofs.WellTables.{slot_well}
use Rattle.texts.specs.Written.{number}
use Rattle.texts.specs.Put.{Put, Room}
use Rattle.texts.specs.declared.Text.{Text}
use Rattle.texts.proofs.Digits.{number_few}
use Rattle.texts.proofs.Writing.{put_none, put_then, wrote_length}
use Rattle.listing.specs.Written.{Listable, field, placed, label_of, sizes_of, line_of, lines_of}
use Rattle.listing.proofs.Writing.{field_most, field_few, placed_few}

-- ---- one line
-- its front
pub label_there : (i place : ℕ) {t t₁ t₂ t₃ : Text} → Put (number i) t t₁ → Put (text " ") t₁ t₂ → Put (placed place) t₂ t₃ → Put (label_of i place) t t₃
unfolding label_of
label_there i place u v w = put_then (put_then u v) w

pub label_most : (i place : ℕ) → i < 100 → length (label_of i place) ≤ 11
unfolding label_of
label_most i place h = simp length-append (omega (arith, number_few 1 i h, placed_few place))

-- the rest of it
module _ (hashes count size : ℕ) where
  pub sizes_there : {t t₁ t₂ t₃ t₄ : Text} → Put (field hashes) t t₁ → Put (field count) t₁ t₂ → Put (field size) t₂ t₃ → Put (text "\n") t₃ t₄ → Put (sizes_of hashes count size) t t₄
  unfolding sizes_of
  sizes_there u v w x = put_then (put_then (put_then u v) w) x

  pub sizes_most : hashes < 10 → size < 10000 → length (sizes_of hashes count size) ≤ 14
  unfolding sizes_of
  sizes_most few short = simp length-append (omega (arith, field_few 0 hashes few, field_most count, field_few 3 size short))

-- both are the profile's line
regroup : (a b c d e f g : Bytes) → joined (a ∷ b ∷ c ∷ b ∷ d ∷ b ∷ e ∷ b ∷ f ∷ g ∷ []) ≡ (a ++ b ++ c) ++ ((b ++ d) ++ (b ++ e) ++ (b ++ f) ++ g)
regroup a b c d e f g = simp (append_assoc, append-nil)

line_is : (i : ℕ) (s : Bytes) → line_of i s ≡ label_of i (place_of s) ++ sizes_of (hash_count_of s) (count_number (count_of s)) (length_of s)
unfolding line_of label_of sizes_of number field placed
line_is i s = regroup (decimal i) (text " ") (place_word (place_of s)) (decimal (hash_count_of s)) (decimal (count_number (count_of s))) (decimal (length_of s)) (text "\n")

pub line_there : (i : ℕ) (s : Bytes) (h : Head) → HeadOf s h → {t t₁ t₂ : Text} → Put (label_of i (place_number h.place)) t t₁
    → (n : ℕ) → n ≡ count_number h.count → Put (sizes_of h.hashes n h.length) t₁ t₂ → Put (line_of i s) t t₂
line_there i s h of u n e v = rw (line_is i s, ← of.place_is, ← of.hashes_are, ← of.count_is, ← e, ← of.length_is) (put_then u v)

pub line_most : (i : ℕ) (s : Bytes) → i < 100 → hash_count_of s < 10 → length_of s < 10000 → length (line_of i s) ≤ 25
line_most i s h few short =
    rw (line_is i s)
    (simp length-append (omega (arith, label_most i (place_of s) h, sizes_most (hash_count_of s) (count_number (count_of s)) (length_of s) few short)))

-- ---- the lines of the first i slots
lines_snoc : (k : ℕ) (xs : List Bytes) (s : Bytes) → lines k (xs ++ (s ∷ [])) ≡ lines k xs ++ line (k + length xs) s
lines_snoc k [] s = rw (add-zero k) (append-nil (line k s))
lines_snoc k (x ∷ xs) s =
    let e : suc k + length xs ≡ k + suc (length xs) = omega arith in
    rw (lines_snoc (suc k) xs s, e) (sym (append_assoc (line k x) (lines (suc k) xs) (line (k + suc (length xs)) s)))

unfoldable pub lines_to : ℕ → Bytes → Bytes
lines_to i t = lines 0 (take i (slot_bytes t))

module _ (t : Bytes) where
  lines_next : (i : ℕ) → i < slot_count t → lines_to (i + 1) t ≡ lines_to i t ++ line_of i (get_or (slot_bytes t) i [])
  unfolding lines_to line_of
  lines_next i h =
      let s = get_or (slot_bytes t) i [] in
      let below : i < length (slot_bytes t) = rw (length_bytes t) h in
      let passed : length (take i (slot_bytes t)) ≡ i = length-take-le i (slot_bytes t) (omega arith) in
      let from_0 : 0 + length (take i (slot_bytes t)) ≡ i = zero-add (length (take i (slot_bytes t))) ∙ passed in
      let more : take (i + 1) (slot_bytes t) ≡ take i (slot_bytes t) ++ (s ∷ []) = rw (add-one i) (take-suc (slot_bytes t) i [] below) in
      ap (lines 0) more ∙ lines_snoc 0 (take i (slot_bytes t)) s ∙ ap (λ (k : ℕ). lines 0 (take i (slot_bytes t)) ++ line k s) from_0

  lines_all : (i : ℕ) → slot_count t ≤ i → lines_to i t ≡ lines_of t
  unfolding lines_to lines_of
  lines_all i h = ap (lines 0) (take_all i (slot_bytes t) (rw (length_bytes t) h))

-- ---- what holds when i slots are passed
-- their lines were put after what the text had, and are no longer than they may be
pub record Passed (t : Bytes) (x : Text) (i : ℕ) (y : Text) : Type 0 where
  pub put : Put (lines_to i t) x y
  pub short : y.at ≤ x.at + 25 * i

module _ (t : Bytes) (x : Text) (fit : Listable t) (room : Room (25 * most_slots) x) where
  pub passed_none : Passed t x 0 x
  unfolding lines_to
  passed_none = record { put = put_none x (omega arith); short = omega arith }

  pub passed_all : (i : ℕ) (y : Text) → slot_count t ≤ i → Passed t x i y → Put (lines_of t) x y
  passed_all i y h p = rw (← lines_all t i h) p.put

  module _ (i : ℕ) (y : Text) (h : i < slot_count t) (p : Passed t x i y) where
    index_few : i < most_slots
    index_few = omega (arith, few_slots t fit.whole fit.well, length_slots t)

    room_next : Room 25 y
    room_next = omega (arith, p.short, wrote_length p.put.wrote, index_few)

    module _ (s : Bytes) (e : s ≡ get_or (slot_bytes t) i []) where
      well_s : well_slot s ≡ true
      well_s = rw (e, get_d_slots t i h) (slot_well t i fit.well h)

      few_next : hash_count_of s < 10
      few_next = omega (arith, few_hashes s well_s)

      short_next : length_of s < 10000
      short_next = omega (arith, length_most_4096 s well_s)

      -- what the next line asks, and what holds after it
      pub line_asks : (i < 100) × (hash_count_of s < 10) × (length_of s < 10000) × Room 25 y
      line_asks = (omega (arith, index_few), few_next, short_next, room_next)

      pub pass_next : (y' : Text) → Put (line_of i s) y y' → Passed t x (i + 1) y'
      pass_next y' w =
          record {
            put = rw (lines_next t i h, ← e) (put_then p.put w);
            short = omega (arith, p.short, w.wrote.ends, line_most i s (omega (arith, index_few)) few_next short_next);
          }
