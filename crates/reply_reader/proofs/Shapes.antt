-- The reader's tests on a whole frame, as the profile has them on its body. Assumes nothing.
use mathlib.Core.Path.{◌≡◌, refl, sym, ap, ap₂, ◌∙◌}
use mathlib.Core.List.{[], ◌∷◌}
use mathlib.Core.Bool.{Bool, true, false, ◌&&◌}
use Prim.Native.Nat.{ℕ, suc, ◌+◌, ◌-◌, ◌*◌, ◌/◌, ◌%◌, ◌≤◌, ◌<◌}
use native.Mathlib.Omega.{arith}
use lib.Dec.{eqb, leb, ltb}
use lib.ListN.{length, length-drop}
use lib.Seq.{get_or-drop}
use borrow.Author.Tests.{eqb-true, eqb-false, leb-true, leb-false, eq-eqb, ne_eqb, le-leb, lt-leb}
use Rattle.profile.specs.Bytes.{Bytes, byte, word, from1to}
use Rattle.profile.specs.Sizes.{most_slots, most_payload, handle_size, key_size, hash_size, most_hashes}
use Rattle.profile.specs.Slot.{Count, count_holds, count_with}
use Rattle.profile.specs.Frame.{is_frame, version_holds, body, kept_in, right_fits, retrieve_kind, rek_kind, list_kind, info_kind}
use Rattle.profile.specs.Device.{none?, shaped}
use Rattle.profile.proofs.Logic.{and_parts}
use Rattle.reply_reader.specs.Told.{count_from, payload_from}

-- ---- tests that say the same
leb_same : (a b c d : ℕ) → (a ≤ b → c ≤ d) → (c ≤ d → a ≤ b) → leb a b ≡ leb c d
leb_same a b c d p q = go (leb a b) (leb c d) refl refl
  where
    go : (s t : Bool) → leb a b ≡ s → leb c d ≡ t → s ≡ t
    go true true e f = refl
    go true false e f = absurd (omega (arith, p (leb-true a b e), leb-false c d f))
    go false true e f = absurd (omega (arith, q (leb-true c d f), leb-false a b e))
    go false false e f = refl

pub eqb_same : (a b c d : ℕ) → (a ≡ b → c ≡ d) → (c ≡ d → a ≡ b) → eqb a b ≡ eqb c d
eqb_same a b c d p q = go (eqb c d) refl
  where
    go : (t : Bool) → eqb c d ≡ t → eqb a b ≡ t
    go true e = eq-eqb a b (q (eqb-true c d e))
    go false e = ne_eqb a b (λ h. eqb-false c d e (p h))

none_short : (s : Bytes) → none? s ≡ leb (length s) 0
none_short [] = refl
none_short (x ∷ s) = sym (lt-leb (suc (length s)) 0 (omega arith))

module _ (f : Bytes) where
  body_length : length (body f) ≡ length f - 4
  body_length = length-drop 4 f

  pub body_byte : (i : ℕ) → byte i (body f) ≡ byte (4 + i) f
  body_byte i = get_or-drop 4 f i 0

  pub body_word : (at : ℕ) → word at (body f) ≡ 256 * byte (4 + at) f + byte (4 + (at + 1)) f
  body_word at = ap₂ (λ (a b : ℕ). 256 * a + b) (body_byte at) (body_byte (at + 1))

  -- the count at an offset, by its bit and its number: whether they say one, and which
  pub says_read : (at : ℕ) {b n : ℕ} {h : Bool} → b ≡ kept_in f → n ≡ word at f → h ≡ count_holds b n → h ≡ count_holds (kept_in f) (word at f)
  says_read at eb en e = e ∙ ap₂ count_holds eb en

  pub count_read : (at : ℕ) {b n : ℕ} {c : Count} → b ≡ kept_in f → n ≡ word at f → c ≡ count_with b n → c ≡ count_from at f
  count_read at eb en e = e ∙ ap₂ count_with eb en

  -- ---- a frame
  pub frame_long : (is_frame f && version_holds f) ≡ true → 4 ≤ length f
  frame_long e = leb-true 4 (length f) (and_parts (leb 4 (length f)) (eqb (length f) (4 + word 2 f)) (and_parts (is_frame f) (version_holds f) e).0).0

  pub frame_short : length f < 4 → false ≡ (is_frame f && version_holds f)
  frame_short h = rw (lt-leb 4 (length f) h)

  pub frame_tests : {n v : ℕ} → 4 ≤ length f → n ≡ word 2 f → v ≡ byte 0 f / 32 → (eqb (length f) (4 + n) && eqb v 1) ≡ (is_frame f && version_holds f)
  frame_tests h en ev = rw (le-leb 4 (length f) h, en, ev)

  -- ---- bodies
  pub none_tests : leb (length f) 4 ≡ none? (body f)
  none_tests = leb_same (length f) 4 (length (body f)) 0 (λ h. rw body_length (omega arith)) (λ h. omega (arith, body_length)) ∙ sym (none_short (body f))

  pub right_short : length f < 24 → false ≡ shaped retrieve_kind f
  right_short h = rw (body_length, lt-leb 20 (length f - 4) (omega arith))

  -- the payload of kind 3, after n hashes
  abbrev size : ℕ → ℕ
  size n = length f - 4 - (19 + hash_size * n)

  pub right_tests : {n r : ℕ} {b : Bool} → 24 ≤ length f → n ≡ byte 22 f / 16 → r ≡ byte 22 f % 16 → b ≡ count_holds (kept_in f) (word 20 f)
      → (leb n most_hashes && eqb r 0 && (ltb (23 + hash_size * n) (length f) && leb (length f) (23 + hash_size * n + most_payload)) && b) ≡ shaped retrieve_kind f
  right_tests {n} {r} {b} h en er eb = rw (body_length, body_byte 18, body_word 16, le-leb 20 (length f - 4) (omega arith), ← en, ← er, ← eb, some, most)
    where
      some : ltb (23 + hash_size * n) (length f) ≡ ltb 0 (size n)
      some = leb_same (suc (23 + hash_size * n)) (length f) 1 (size n) (λ h. omega arith) (λ h. omega arith)

      most : leb (length f) (23 + hash_size * n + most_payload) ≡ leb (size n) most_payload
      most = leb_same (length f) (23 + hash_size * n + most_payload) (size n) most_payload (λ h. omega arith) (λ h. omega arith)

  pub right_room : shaped retrieve_kind f ≡ true → (24 ≤ length f) × (payload_from f ≤ length f)
  right_room e = (long, omega (arith, leb-true (suc (payload_from f)) (length f) (and_parts (ltb (payload_from f) (length f)) (leb (length f) (payload_from f + most_payload)) sized).0))
    where
      fits : (leb 20 (length (body f)) && right_fits hash_size most_hashes (body f)) ≡ true
      fits = (and_parts (leb 20 (length (body f)) && right_fits hash_size most_hashes (body f)) (count_holds (kept_in f) (word key_size (body f))) e).0

      long : 24 ≤ length f
      long = omega (arith, body_length, leb-true 20 (length (body f)) (and_parts (leb 20 (length (body f))) (right_fits hash_size most_hashes (body f)) fits).0)

      few : Bool
      few = leb (byte 22 f / 16) most_hashes && eqb (byte 22 f % 16) 0

      sized : (ltb (payload_from f) (length f) && leb (length f) (payload_from f + most_payload)) ≡ true
      sized =
          let size : Bool = ltb (payload_from f) (length f) && leb (length f) (payload_from f + most_payload) in
          (and_parts few size (and_parts (few && size) (count_holds (kept_in f) (word 20 f)) (right_tests long refl refl refl ∙ e)).0).1

  pub key_tests : eqb (length f) (4 + key_size) ≡ shaped rek_kind f
  key_tests = eqb_same (length f) (4 + key_size) (length (body f)) key_size (λ h. rw body_length (omega arith)) (λ h. omega (arith, body_length))

  pub key_room : shaped rek_kind f ≡ true → length f ≡ 4 + key_size
  key_room e = eqb-true (length f) (4 + key_size) (key_tests ∙ e)

  pub list_short : length f < 5 → false ≡ shaped list_kind f
  list_short h = rw (body_length, lt-leb 1 (length f - 4) (omega arith))

  pub list_tests : {r : ℕ} → 5 ≤ length f → r ≡ byte 4 f % 128 → (eqb r 0 && eqb ((length f - 5) % handle_size) 0 && leb (length f - 5) (handle_size * most_slots)) ≡ shaped list_kind f
  list_tests h er =
      let e : length f - 4 - 1 ≡ length f - 5 = omega arith in
      rw (er, body_length, body_byte 0, le-leb 1 (length f - 4) (omega arith), e)

  pub list_room : shaped list_kind f ≡ true → (5 ≤ length f) × (byte 4 f % 128 ≡ 0)
  list_room e =
      let p = and_parts (leb 1 (length (body f)) && eqb (byte 0 (body f) % 128) 0 && eqb ((length (body f) - 1) % handle_size) 0) (leb (length (body f) - 1) (handle_size * most_slots)) e in
      let q = and_parts (leb 1 (length (body f)) && eqb (byte 0 (body f) % 128) 0) (eqb ((length (body f) - 1) % handle_size) 0) p.0 in
      let r = and_parts (leb 1 (length (body f))) (eqb (byte 0 (body f) % 128) 0) q.0 in
      (omega (arith, body_length, leb-true 1 (length (body f)) r.0), ap (λ (n : ℕ). n % 128) (sym (body_byte 0)) ∙ eqb-true (byte 0 (body f) % 128) 0 r.1)

  pub info_short : length f < 6 → false ≡ shaped info_kind f
  info_short h = rw (body_length, lt-leb 2 (length f - 4) (omega arith))

  pub info_tests : {b : Bool} → 6 ≤ length f → b ≡ count_holds (kept_in f) (word 4 f) → (ltb 6 (length f) && leb (length f) (6 + most_payload) && b) ≡ shaped info_kind f
  info_tests h eb = rw (body_length, body_word 0, le-leb 2 (length f - 4) (omega arith), ← eb, some, most)
    where
      some : ltb 6 (length f) ≡ ltb 0 (length f - 4 - 2)
      some = leb_same 7 (length f) 1 (length f - 4 - 2) (λ h. omega arith) (λ h. omega arith)

      most : leb (length f) (6 + most_payload) ≡ leb (length f - 4 - 2) most_payload
      most = leb_same (length f) (6 + most_payload) (length f - 4 - 2) most_payload (λ h. omega arith) (λ h. omega arith)

  pub info_room : shaped info_kind f ≡ true → 6 ≤ length f
  info_room e =
      let fits = (and_parts (leb 2 (length (body f)) && from1to most_payload (length (body f) - 2)) (count_holds (kept_in f) (word 0 (body f))) e).0 in
      omega (arith, body_length, leb-true 2 (length (body f)) (and_parts (leb 2 (length (body f))) (from1to most_payload (length (body f) - 2)) fits).0)
