-- The slots of a table as parts of its bytes, one after another. Assumes nothing.
use Prim.Native.Nat.{ℕ, zero, suc, ◌+◌, ◌-◌, ◌*◌, ◌≤◌, ◌<◌}
use mathlib.Core.Path.{◌≡◌, refl, ap, ◌∙◌}
use mathlib.Core.List.{List, [], ◌∷◌}
use native.Mathlib.Omega.{arith}
use native.Mathlib.Numerals.{add-one}
use lib.ListN.{length, get_or, take, drop, length-map, get_or-map, drop_of_length-le}
use lib.Seq.{drop-cons}
use Rattle.profile.specs.Bytes.{Bytes, part, pieces}
use Rattle.std.specs.Simd.{first_chunks}
use Rattle.profile.specs.Table.{unpack, slot_count, slot_bytes, slots_of}
use Rattle.profile.proofs.Strings.{length_pieces, length_part}
use Rattle.slots.proofs.Pieces.{get_d_pieces, pieces_step}

chunks_pieces : (k n : ℕ) (s : Bytes) → first_chunks k n s ≡ pieces k n s
chunks_pieces k zero s = refl
chunks_pieces k (suc n) s = ap (λ (r : List Bytes). take k s ∷ r) (chunks_pieces k n (drop k s))

module _ (t : Bytes) where
  pub length_bytes : length (slot_bytes t) ≡ slot_count t
  unfolding slot_bytes
  length_bytes = length_pieces 4288 (slot_count t) t

  pub length_slots : length (slots_of t) ≡ slot_count t
  unfolding slots_of
  length_slots = length-map (slot_bytes t) unpack ∙ length_bytes

  pub get_d_slots : (i : ℕ) → i < slot_count t → get_or (slot_bytes t) i [] ≡ part (4288 * i) 4288 t
  unfolding slot_bytes
  get_d_slots i h = get_d_pieces 4288 (slot_count t) i t h

  pub unpacked_at : (i : ℕ) → i < slot_count t → get_or (slots_of t) i (unpack []) ≡ unpack (part (4288 * i) 4288 t)
  unfolding slots_of
  unpacked_at i h = get_or-map unpack (slot_bytes t) i [] ∙ ap unpack (get_d_slots i h)

  pub length_slot : (i : ℕ) → i < slot_count t → length (part (4288 * i) 4288 t) ≡ 4288
  length_slot i h = length_part (4288 * i) 4288 t (omega arith)

  -- what is lent of the table for slot i
  pub slot_lent : (i : ℕ) → i < slot_count t → (s : Bytes) → s ≡ take (4288 * i + 4288 - 4288 * i) (drop (4288 * i) t)
      → (s ≡ part (4288 * i) 4288 t) × (length s ≡ 4288)
  slot_lent i h s q =
      let n : 4288 * i + 4288 - 4288 * i ≡ 4288 = omega arith in
      let e : s ≡ part (4288 * i) 4288 t = q ∙ ap (λ (m : ℕ). take m (drop (4288 * i) t)) n in
      (e, ap length e ∙ length_slot i h)

  -- the bytes of the slots from i on, and the slots unpacked
  pub bytes_step : (i : ℕ) → i < slot_count t → drop i (slot_bytes t) ≡ part (4288 * i) 4288 t ∷ drop (i + 1) (slot_bytes t)
  unfolding slot_bytes
  bytes_step i h = pieces_step 4288 (slot_count t) i t h

  pub slots_step : (i : ℕ) → i < slot_count t → drop i (slots_of t) ≡ unpack (part (4288 * i) 4288 t) ∷ drop (i + 1) (slots_of t)
  slots_step i h = rw (add-one, ← unpacked_at i h) (drop-cons (slots_of t) i (unpack []) (rw length_slots h))

  -- after the last
  pub bytes_end : (i : ℕ) → slot_count t ≤ i → drop i (slot_bytes t) ≡ []
  bytes_end i h = drop_of_length-le (slot_bytes t) {i = i} (rw length_bytes h)

  pub slots_end : (i : ℕ) → slot_count t ≤ i → drop i (slots_of t) ≡ []
  slots_end i h = drop_of_length-le (slots_of t) {i = i} (rw length_slots h)

  -- all that are lent of the table at once: the library's chunks are the profile's pieces
  pub slots_cut : (ss : List Bytes) → ss ≡ first_chunks 4288 (slot_count t) t → (ss ≡ slot_bytes t) × (length ss ≡ slot_count t)
  unfolding slot_bytes
  slots_cut ss e = let p : ss ≡ pieces 4288 (slot_count t) t = e ∙ chunks_pieces 4288 (slot_count t) t in (p, ap length p ∙ length_bytes)
