-- A reply frame, written part by part at the start of a buffer; and each frame as the reply of an answer. Assumes nothing.
use mathlib.Core.Path.{◌≡◌, refl, sym, ap, ◌∙◌}
use mathlib.Core.List.{List, [], ◌∷◌, ◌++◌, append_assoc}
use Prim.Native.Nat.{ℕ, ◌+◌, ◌*◌, ◌/◌, ◌%◌, ◌≤◌}
use native.Mathlib.Omega.{arith}
use lib.ListN.{length, drop, length-append}
use Rattle.profile.specs.Bytes.{Bytes, part, word_bytes, over}
use Rattle.profile.specs.Sizes.{slot_size, reply_room, most_payload, key_size, hash_size, most_hashes, key_at, hashes_at, payload_at}
use Rattle.profile.specs.Slot.{Count, count_number, Slot}
use Rattle.profile.specs.Table.{hash_count_of, kept_of, count_of, length_of, count_bytes, right_of}
use Rattle.profile.specs.Frame.{Refusal, code, frame}
use Rattle.profile.specs.Agent.{Given, the_right, the_key, deny, done, given_bit, write_given, reply_frame}
use Rattle.profile.proofs.Counts.{slot_kept_again}
use Rattle.profile.proofs.Strings.{length_part, length_pieces, joined_pieces}
use Rattle.buffers.specs.Over.{over_at}
use Rattle.buffers.proofs.Overlays.{over_start, over_length, over_more}
use Rattle.reply_writer.specs.Written.{head_of, info_of}

-- ---- written part by part
-- count and hash count, byte by byte
pub terms_are : (count : Count) (hashes : ℕ) {n high low shifted : ℕ} → n ≡ count_number count → high ≡ n / 256 → low ≡ n % 256 → shifted ≡ 16 * hashes → (high ∷ low ∷ shifted ∷ []) ≡ count_bytes count ++ ((16 * hashes) ∷ [])
terms_are count hashes e h l s = rw (h, l, s, e)

-- a head alone
pub head_written : (k v : ℕ) (d : Bytes) → over_at 0 (head_of k v 0) d ≡ over (frame k v []) d
unfolding frame
head_written k v d = over_start (head_of k v 0) d

-- a head, and after it a body of n bytes
pub body_written : (k v n : ℕ) (b d : Bytes) → length b ≡ n → 4 + n ≤ length d → over_at 4 b (over_at 0 (head_of k v n) d) ≡ over (frame k v b) d
unfolding frame
body_written k v n b d e h =
    over_more (head_of k v n) b d 0 4 refl (omega arith)
    ∙ over_start (head_of k v n ++ b) d
    ∙ ap (λ (m : ℕ). over (head_of k v m ++ b) d) (sym e)

-- the body in two parts
pub parts_written : (k v n m : ℕ) (a b d : Bytes) → m ≡ 4 + length a → length a + length b ≡ n → 4 + n ≤ length d → over_at m b (over_at 4 a (over_at 0 (head_of k v n) d)) ≡ over (frame k v (a ++ b)) d
parts_written k v n m a b d e f h =
    let l : length (over_at 0 (head_of k v n) d) ≡ length d = over_length (head_of k v n) d 0 (omega arith) in
    over_more a b (over_at 0 (head_of k v n) d) 4 m e (omega arith)
    ∙ body_written k v n (a ++ b) d (length-append a b ∙ f) h

-- the second byte of a success that gives a slot's count has the count's bit
second_is : {v : ℕ} (s : Bytes) → v ≡ 128 * kept_of s → v ≡ 128 * given_bit (the_right (right_of s))
second_is s e = e ∙ ap (λ (b : ℕ). 128 * b) (sym (slot_kept_again s))

module _ (s d : Bytes) (len-s : length s ≡ slot_size) where
  key_written : 4 + key_size ≤ length d → over_at 4 (part key_at key_size s) (over_at 0 (head_of 4 0 key_size) d) ≡ over (frame 4 0 (write_given (the_key (right_of s).key))) d
  key_written h = body_written 4 0 key_size (part key_at key_size s) d (length_part key_at key_size s (omega arith)) h

  -- the same, step by step
  pub key_steps : {d₁ d₂ : Bytes} → d₁ ≡ over_at 0 (head_of 4 0 key_size) d → d₂ ≡ over_at 4 (part key_at key_size s) d₁ → 4 + key_size ≤ length d
      → d₂ ≡ over (frame 4 0 (write_given (the_key (right_of s).key))) d
  key_steps e₁ e₂ h = rw (e₂, e₁) (key_written h)

  module _ (short : length_of s ≤ most_payload) where
    payload_length : length (part payload_at (length_of s) s) ≡ length_of s
    payload_length = length_part payload_at (length_of s) s (omega arith)

    info_written : (v : ℕ) → 6 + most_payload ≤ length d
        → over_at 6 (part payload_at (length_of s) s) (over_at 4 (count_bytes (count_of s)) (over_at 0 (head_of 9 v (2 + length_of s)) d))
        ≡ over (frame 9 v (write_given (info_of (right_of s)))) d
    info_written v h =
        let p = payload_length in
        parts_written 9 v (2 + length_of s) 6 (count_bytes (count_of s)) (part payload_at (length_of s) s) d refl (omega arith) (omega arith)

    pub info_steps : {v n l : ℕ} {c : Count} {d₁ d₂ d₃ : Bytes} → v ≡ 128 * kept_of s → c ≡ count_of s → n ≡ count_number c → l ≡ length_of s
        → d₁ ≡ over_at 0 (head_of 9 v (2 + l)) d → d₂ ≡ over_at 4 (word_bytes n) d₁ → d₃ ≡ over_at 6 (part payload_at l s) d₂
        → 6 + most_payload ≤ length d → d₃ ≡ over (frame 9 (128 * given_bit (info_of (right_of s))) (write_given (info_of (right_of s)))) d
    info_steps {v} ev ec en el e₁ e₂ e₃ h = rw (e₃, e₂, e₁, en, ec, el) (info_written v h ∙ ap (λ (x : ℕ). over (frame 9 x (write_given (info_of (right_of s)))) d) (second_is s ev))

    module _ (few : hash_count_of s ≤ most_hashes) where
      -- the slot's fields: the key; count and hash count; the hashes
      abbrev k : Bytes
      k = part key_at key_size s

      abbrev m : Bytes
      m = count_bytes (count_of s) ++ ((16 * hash_count_of s) ∷ [])

      abbrev hs : Bytes
      hs = part hashes_at (hash_size * hash_count_of s) s

      k_length : length k ≡ key_size
      k_length = length_part key_at key_size s (omega arith)

      hs_length : length hs ≡ hash_size * hash_count_of s
      hs_length = length_part hashes_at (hash_size * hash_count_of s) s (omega arith)

      front_length : length (k ++ m) ≡ 19
      front_length = rw (length-append k m, k_length)

      right_is : k ++ m ++ hs ++ part payload_at (length_of s) s ≡ write_given (the_right (right_of s))
      right_is = rw (length_pieces hash_size (hash_count_of s) (drop hashes_at s), joined_pieces hash_size (hash_count_of s) (drop hashes_at s)) (simp append_assoc)

      right_written : (v : ℕ) → reply_room ≤ length d
          → over_at (23 + hash_size * hash_count_of s) (part payload_at (length_of s) s)
          (over_at 23 hs (over_at 20 m (over_at 4 k (over_at 0 (head_of 3 v (19 + hash_size * hash_count_of s + length_of s)) d))))
          ≡ over (frame 3 v (write_given (the_right (right_of s)))) d
      right_written v h =
          let size : ℕ = 19 + hash_size * hash_count_of s + length_of s in
          let p : Bytes = part payload_at (length_of s) s in
          let x : Bytes = over_at 0 (head_of 3 v size) d in
          let lx : length x ≡ length d = over_length (head_of 3 v size) d 0 (omega arith) in
          let lp = payload_length in
          let lk = k_length in
          let lh = hs_length in
          let lf = front_length in
          let lb : length (k ++ m ++ hs) ≡ 19 + hash_size * hash_count_of s = length-append (k ++ m) hs ∙ rw (front_length, hs_length) in
          rw (over_more k m x 4 20 (omega arith) (omega arith), over_more (k ++ m) hs x 4 23 (omega arith) (omega arith))
          (parts_written 3 v size (23 + hash_size * hash_count_of s) (k ++ m ++ hs) p d (omega arith) (omega arith) (omega arith) ∙ ap (λ (b : Bytes). over (frame 3 v b) d) right_is)

      -- the same, step by step
      pub right_steps : {n v l : ℕ} {c : Count} {f d₁ d₂ d₃ d₄ d₅ : Bytes} → n ≡ hash_count_of s → v ≡ 128 * kept_of s → c ≡ count_of s → l ≡ length_of s → f ≡ count_bytes c ++ ((16 * n) ∷ [])
          → d₁ ≡ over_at 0 (head_of 3 v (19 + hash_size * n + l)) d → d₂ ≡ over_at 4 (part key_at key_size s) d₁ → d₃ ≡ over_at 20 f d₂
          → d₄ ≡ over_at 23 (part hashes_at (hash_size * n) s) d₃ → d₅ ≡ over_at (23 + hash_size * n) (part payload_at l s) d₄
          → reply_room ≤ length d → d₅ ≡ over (frame 3 (128 * given_bit (the_right (right_of s))) (write_given (the_right (right_of s)))) d
      right_steps {v = v} en ev ec el ef e₁ e₂ e₃ e₄ e₅ h = rw (e₅, e₄, e₃, e₂, e₁, ef, en, ec, el) (right_written v h ∙ ap (λ (x : ℕ). over (frame 3 x (write_given (the_right (right_of s)))) d) (second_is s ev))

-- ---- as replies
pub deny_frame : (kind : ℕ) (r : Refusal) → reply_frame kind (deny r) ≡ frame kind (code r) []
unfolding reply_frame
deny_frame kind r = refl

-- whatever the slots are afterwards
pub done_frame : (kind : ℕ) (g : Given) (t : List Slot) → reply_frame kind (done g t) ≡ frame kind (128 * given_bit g) (write_given g)
unfolding reply_frame
done_frame kind g t = refl
