-- A slot's bytes with the fields of a change written over them: the bytes of the changed slot. Assumes nothing.
use Prim.Native.Nat.{ℕ, ◌+◌, ◌*◌, ◌%◌, ◌≤◌}
use mathlib.Core.Path.{◌≡◌, sym, ap, ◌∙◌}
use mathlib.Core.List.{[], ◌∷◌, ◌++◌, append-nil}
use native.Mathlib.Omega.{arith}
use lib.ListN.{length, drop, replicate-append-replicate, length-drop}
use Rattle.profile.specs.Bytes.{Bytes, byte, part, word, word_bytes, zeros, joined, Bytes256}
use Rattle.profile.specs.Sizes.{hash_size, most_hashes}
use Rattle.profile.specs.Slot.{Count, kept_bit, Right, recount, reserved, enabled, disabled, empty, taken, HasRoom}
use Rattle.profile.specs.Table.{hash_count_of, slot_head, count_bytes, right_of, unpack, image, blank, pack}
use Rattle.profile.proofs.Strings.{length_zeros, length_part, length_pieces, each_pieces, joined_pieces}
use Rattle.profile.proofs.Unpack.{pack_unpack}
use Rattle.profile.proofs.WellFormed.{slot_fits}
use Rattle.buffers.specs.Over.{over_at}
use Rattle.changes.specs.Change.{Placed, right_from}
use Rattle.changes.proofs.Images.{place_over, handle_over, count_over, length_over, written, stored}

-- ---- the bytes of a slot of each place, as an image
zeros_more : (n m : ℕ) (d : Bytes) → d ≡ zeros m → zeros n ++ d ≡ zeros (n + m)
unfolding zeros
zeros_more n m d e = rw e (replicate-append-replicate n m 0)

zero_more : (m : ℕ) (d : Bytes) → d ≡ zeros m → 0 ∷ d ≡ zeros (1 + m)
unfolding zeros
zero_more m d e = rw e (replicate-append-replicate 1 m 0)

-- an empty slot: place 0, and a handle, a right and a length of zeros
empty_image : image 0 (zeros 10) blank 0 ≡ pack empty
unfolding pack image
empty_image =
    zero_more 4287 _ (zeros_more 10 4277 _ (zeros_more 16 4261 _
    (zero_more 4260 _ (zero_more 4259 _ (zero_more 4258 _ (zero_more 4257 _
    (zeros_more 160 4097 _ (zero_more 4096 _ (append-nil (zeros 4096))))))))))

blank_room : HasRoom hash_size most_hashes blank
blank_room = record { key_16 = length_zeros 16; hashed = record { each = tt; few = omega arith }; short = omega arith }

-- the places of a record with a right: enabled, disabled
data HasRight : ℕ → Type 0 where
  at_2 : HasRight 2
  at_3 : HasRight 3

module _ (s : Bytes) (bytes : Bytes256 s) where
  is_empty : Placed 0 s → s ≡ image 0 (zeros 10) blank 0
  unfolding unpack
  is_empty w = sym (pack_unpack s w.long bytes w.well) ∙ rw w.place_is (sym empty_image)

  is_reserved : Placed 1 s → s ≡ image 1 (part 1 10 s) blank (word 29 s)
  unfolding pack unpack
  is_reserved w = sym (pack_unpack s w.long bytes w.well) ∙ rw w.place_is

  abbrev imaged : ℕ → Bytes
  imaged p = image p (part 1 10 s) (right_of s) (length (right_of s).payload)

  is_right : {p : ℕ} → HasRight p → Placed p s → s ≡ imaged p
  unfolding pack unpack
  is_right at_2 w = sym (pack_unpack s w.long bytes w.well) ∙ rw w.place_is
  is_right at_3 w = sym (pack_unpack s w.long bytes w.well) ∙ rw w.place_is

  right_room : {p : ℕ} → HasRight p → Placed p s → HasRoom hash_size most_hashes (right_of s)
  unfolding unpack
  right_room at_2 w = (rw w.place_is at (slot_fits s w.long w.well)).1.room
  right_room at_3 w = (rw w.place_is at (slot_fits s w.long w.well)).1.room

  handle_10 : length s ≡ 4288 → length (part 1 10 s) ≡ 10
  handle_10 e = length_part 1 10 s (omega arith)

  -- a right goes to another place
  moved : {p : ℕ} (q : ℕ) → HasRight p → Placed p s → over_at 0 ((64 * q + byte 0 s % 64) ∷ []) s ≡ imaged q
  moved {p} q at w =
      ap (λ (d : Bytes). over_at 0 ((64 * q + byte 0 d % 64) ∷ []) d) (is_right at w)
      ∙ place_over p (part 1 10 s) (right_of s) (length (right_of s).payload) (handle_10 w.long) (right_room at w) q

-- ---- the changes, as they are written one after another
module _ (s : Bytes) (bytes : Bytes256 s) where
  -- a setup: place and handle, then the length
  pub reserves : (s₁ s₂ h : Bytes) (n : ℕ) → length h ≡ 10 → Placed 0 s
      → s₁ ≡ over_at 1 h (over_at 0 (64 ∷ []) s)
      → s₂ ≡ over_at 29 (word_bytes n) s₁
      → s₂ ≡ pack (taken h (reserved n))
  unfolding pack image
  reserves s₁ s₂ h n e w e₁ e₂ = e₂ ∙ ap (over_at 29 (word_bytes n)) (e₁ ∙ labelled) ∙ length_over 1 h blank 0 e blank_room n
    where
      labelled : over_at 1 h (over_at 0 (64 ∷ []) s) ≡ image 1 h blank 0
      labelled =
          ap (λ (d : Bytes). over_at 1 h (over_at 0 (64 ∷ []) d)) (is_empty s bytes w)
          ∙ ap (over_at 1 h) (place_over 0 (zeros 10) blank 0 (length_zeros 10) blank_room 1)
          ∙ handle_over 1 (zeros 10) blank 0 (length_zeros 10) blank_room h e

  -- a right where a setup was
  installs : (h : Bytes) (r : Right) → length h ≡ 10 → HasRoom hash_size most_hashes r → Placed 1 s → written 2 h r (length r.payload) s ≡ pack (taken h (enabled r))
  unfolding pack
  installs h r e f w =
      ap (written 2 h r (length r.payload)) (is_reserved s bytes w)
      ∙ stored 1 2 (part 1 10 s) h r (word 29 s) (length r.payload) (handle_10 s bytes w.long) e f

  -- disabled, and another handle
  pub lends : (s₁ s₂ k : Bytes) → length k ≡ 10 → Placed 2 s
      → s₁ ≡ over_at 0 ((64 * 3 + byte 0 s % 64) ∷ []) s
      → s₂ ≡ over_at 1 k s₁
      → s₂ ≡ pack (taken k (disabled (right_of s)))
  unfolding pack
  lends s₁ s₂ k e w e₁ e₂ =
      e₂ ∙ ap (over_at 1 k) (e₁ ∙ moved s bytes 3 at_2 w)
      ∙ handle_over 3 (part 1 10 s) (right_of s) (length (right_of s).payload) (handle_10 s bytes w.long) (right_room s bytes at_2 w) k e

  -- enabled, and another count
  pub enables : (s₁ s₂ : Bytes) (c : Count) (hashes kept : ℕ) → Placed 3 s
      → hashes ≡ hash_count_of s
      → kept ≡ kept_bit c
      → s₁ ≡ over_at 0 ((64 * 2 + 4 * hashes + 2 * kept) ∷ []) s
      → s₂ ≡ over_at 27 (count_bytes c) s₁
      → s₂ ≡ pack (taken (part 1 10 s) (enabled (recount c (right_of s))))
  unfolding pack
  enables s₁ s₂ c hashes kept w e-hashes e-kept e₁ e₂ =
      e₂ ∙ ap (over_at 27 (count_bytes c)) (e₁ ∙ headed)
      ∙ ap (λ (d : Bytes). over_at 27 (count_bytes c) (over_at 0 (slot_head 2 (recount c (right_of s)) ∷ []) d)) (is_right s bytes at_3 w)
      ∙ count_over 3 (part 1 10 s) (right_of s) (length (right_of s).payload) (handle_10 s bytes w.long) (right_room s bytes at_3 w) 2 c
    where
      headed : over_at 0 ((64 * 2 + 4 * hashes + 2 * kept) ∷ []) s ≡ over_at 0 (slot_head 2 (recount c (right_of s)) ∷ []) s
      headed = rw (e-kept, e-hashes, length_pieces hash_size (hash_count_of s) (drop 31 s))

-- ---- the right of a request
module _ (key : Bytes) (count : Count) (n m : ℕ) (f : Bytes) (at : ℕ) (k-16 : length key ≡ 16) (n-8 : n ≤ 8) (m-4096 : m ≤ 4096) (fits : at + 20 * n + m ≤ length f) where
  pub given_hashes : length (right_from key count n m f at).hashes ≡ n
  given_hashes = length_pieces hash_size n (drop at f)

  pub given_bytes : joined (right_from key count n m f at).hashes ≡ part at (20 * n) f
  given_bytes = joined_pieces hash_size n (drop at f)

  pub given_payload : length (right_from key count n m f at).payload ≡ m
  given_payload = length_part (at + 20 * n) m f (omega arith)

  pub given_room : HasRoom hash_size most_hashes (right_from key count n m f at)
  given_room =
      record {
        key_16 = k-16;
        hashed = record { each = each_pieces hash_size n (drop at f) (rw (length-drop at f) (omega arith)); few = rw given_hashes n-8 };
        short = rw given_payload m-4096;
      }

  -- it is stored where a setup was: place, hash count and handle, then key, count and length, then hashes and payload
  pub given_stored : (s₀ s₁ s₂ s₃ h : Bytes) (kept : ℕ) → Bytes256 s₀ → length h ≡ 10 → Placed 1 s₀
      → kept ≡ kept_bit count
      → s₁ ≡ over_at 1 h (over_at 0 ((64 * 2 + 4 * n + 2 * kept) ∷ []) s₀)
      → s₂ ≡ over_at 29 (word_bytes m) (over_at 27 (count_bytes count) (over_at 11 key s₁))
      → s₃ ≡ over_at 192 (part (at + 20 * n) m f) (over_at 31 (part at (20 * n) f) s₂)
      → s₃ ≡ pack (taken h (enabled (right_from key count n m f at)))
  given_stored s₀ s₁ s₂ s₃ h kept bytes e w e₀ e₁ e₂ e₃ = rw (e₃, e₂, e₁, e₀) (sym same ∙ installs s₀ bytes h (right_from key count n m f at) e given_room w)
    where
      same : written 2 h (right_from key count n m f at) (length (right_from key count n m f at).payload) s₀
          ≡ over_at 192 (part (at + 20 * n) m f)
          (over_at 31 (part at (20 * n) f) (over_at 29 (word_bytes m) (over_at 27 (count_bytes count) (over_at 11 key (over_at 1 h (over_at 0 ((64 * 2 + 4 * n + 2 * kept_bit count) ∷ []) s₀))))))
      same = rw (given_bytes, given_payload, given_hashes)
