-- A slot's bytes with a field written over: the bytes of the slot with that field changed. Assumes nothing.
use Prim.Native.Nat.{ℕ, ◌+◌, ◌-◌, ◌*◌, ◌%◌, ◌≤◌}
use mathlib.Core.Path.{◌≡◌, refl, sym, ◌∙◌}
use mathlib.Core.List.{List, [], ◌∷◌, ◌++◌, append_assoc}
use native.Mathlib.Omega.{arith}
use lib.ListN.{length, take, drop}
use Rattle.profile.specs.Bytes.{Bytes, byte, word_bytes, zeros, joined}
use Rattle.profile.specs.Sizes.{hash_size, most_hashes}
use Rattle.profile.specs.Slot.{Count, Right, recount, HasRoom}
use Rattle.profile.specs.Table.{slot_head, count_bytes, image_fields, image, blank}
use Rattle.profile.proofs.Counts.{kept_small}
use Rattle.profile.proofs.Strings.{length_zeros, length_each}
use Rattle.buffers.specs.Over.{over_at}
use Rattle.changes.proofs.OverFields.{over_field, zeros_split}

-- ---- one field changed
module _ (p : ℕ) (h : Bytes) (r : Right) (len : ℕ) (h-10 : length h ≡ 10) (f : HasRoom hash_size most_hashes r) where
  pub place_over : (q : ℕ) → over_at 0 ((64 * q + byte 0 (image p h r len) % 64) ∷ []) (image p h r len) ≡ image q h r len
  unfolding image
  place_over q =
      let e : 64 * q + byte 0 (image p h r len) % 64 ≡ slot_head q r = omega (arith, f.hashed.few, kept_small r.count) in
      rw e (over_field (image_fields p h r len) 0 0 (slot_head q r ∷ []) (omega arith) refl refl)

  pub handle_over : (k : Bytes) → length k ≡ 10 → over_at 1 k (image p h r len) ≡ image p k r len
  unfolding image
  handle_over k e = over_field (image_fields p h r len) 1 1 k (omega arith) refl (e ∙ sym h-10)

  -- byte 0 with another place and another bit, and then the count
  pub count_over : (q : ℕ) (c : Count) → over_at 27 (count_bytes c) (over_at 0 (slot_head q (recount c r) ∷ []) (image p h r len)) ≡ image q h (recount c r) len
  unfolding image
  count_over q c =
      rw (
        over_field (image_fields p h r len) 0 0 (slot_head q (recount c r) ∷ []) (omega arith) refl refl,
        over_field ((slot_head q (recount c r) ∷ []) ∷ drop 1 (image_fields p h r len)) 3 27 (count_bytes c) (omega arith) (omega (arith, f.key_16)) refl,
      )

  pub length_over : (n : ℕ) → over_at 29 (word_bytes n) (image p h r len) ≡ image p h r n
  unfolding image
  length_over n = over_field (image_fields p h r len) 4 29 (word_bytes n) (omega arith) (omega (arith, f.key_16)) refl

-- ---- a right stored where a setup was
-- the fields of a reserved slot, with room for a bytes of hashes and m of payload
abbrev room_fields : ℕ → Bytes → ℕ → ℕ → ℕ → List Bytes
room_fields p h n a m =
    (slot_head p blank ∷ []) ∷ h ∷ zeros 16 ∷ (0 ∷ 0 ∷ []) ∷ word_bytes n ∷ zeros a ∷ zeros (160 - a) ∷ (0 ∷ []) ∷ zeros m ∷ zeros (4096 - m) ∷ []

room_fields_lem : (p : ℕ) (h : Bytes) (n a m : ℕ) → a ≤ 160 → m ≤ 4096 → image p h blank n ≡ joined (room_fields p h n a m)
unfolding image
room_fields_lem p h n a m la lm =
    rw (zeros_split a 160 la, zeros_split m 4096 lm, append_assoc (zeros a) (zeros (160 - a)) (0 ∷ ((zeros m ++ zeros (4096 - m)) ++ [])), append_assoc (zeros m) (zeros (4096 - m)) [])

-- all that is written of a right, field after field
abbrev pub written : ℕ → Bytes → Right → ℕ → Bytes → Bytes
written p h r len s =
    over_at 192 r.payload
    (over_at 31 (joined r.hashes)
    (over_at 29 (word_bytes len)
    (over_at 27 (count_bytes r.count)
    (over_at 11 r.key
    (over_at 1 h
    (over_at 0 (slot_head p r ∷ []) s))))))

module _ (p q : ℕ) (h k : Bytes) (r : Right) (n len : ℕ) (h-10 : length h ≡ 10) (k-10 : length k ≡ 10) (f : HasRoom hash_size most_hashes r) where
  abbrev a : ℕ
  a = length (joined r.hashes)

  abbrev m : ℕ
  m = length r.payload

  a_160 : a ≤ 160
  a_160 = rw (length_each hash_size r.hashes f.hashed.each) (omega (arith, f.hashed.few))

  gap : length (zeros (160 - a)) ≡ 160 - a
  gap = length_zeros (160 - a)

  -- the new slot's first i fields
  abbrev sofar : ℕ → List Bytes
  sofar i = take i (image_fields q k r len) ++ drop i (room_fields p h n a m)

  pub stored : written q k r len (image p h blank n) ≡ image q k r len
  unfolding image
  stored =
      rw (
        room_fields_lem p h n a m a_160 f.short,
        over_field (sofar 0) 0 0 (slot_head q r ∷ []) (omega arith) refl refl,
        over_field (sofar 1) 1 1 k (omega arith) refl (k-10 ∙ sym h-10),
        over_field (sofar 2) 2 11 r.key (omega arith) (omega arith) (f.key_16 ∙ sym (length_zeros 16)),
        over_field (sofar 3) 3 27 (count_bytes r.count) (omega arith) (omega (arith, f.key_16)) refl,
        over_field (sofar 4) 4 29 (word_bytes len) (omega arith) (omega (arith, f.key_16)) refl,
        over_field (sofar 5) 5 31 (joined r.hashes) (omega arith) (omega (arith, f.key_16)) (sym (length_zeros a)),
        over_field (sofar 8) 8 192 r.payload (omega arith) (omega (arith, f.key_16, a_160, gap)) (sym (length_zeros m)),
      )
