-- Slot i lent from the middle of a table, and back with its bytes changed. Assumes nothing.
use Prim.Native.Nat.{ℕ, zero, suc, ◌+◌, ◌*◌, ◌≤◌, ◌<◌}
use mathlib.Core.Path.{◌≡◌, sym, ap, ◌∙◌}
use mathlib.Core.List.{List, [], ◌∷◌, ◌++◌}
use mathlib.Core.Bool.{Bool, true}
use native.Mathlib.Omega.{arith}
use native.Mathlib.Nat.{not-suc-le-zero, le_of_suc-le-suc, mul-zero}
use lib.ListN.{length, get_or, take, drop, set}
use lib.Seq.{drop-drop}
use borrow.Rule.Slice.PartMut.{put_mid}
use Rattle.profile.specs.Bytes.{Bytes, part, zeros, pieces, all, Bytes256}
use Rattle.profile.specs.Slot.{Slot, empty, distinct}
use Rattle.profile.specs.Table.{place_of, well_slot, slot_count, slot_bytes, slots_of, table_of, well_table, pack}
use Rattle.profile.proofs.Logic.{and_parts}
use Rattle.profile.proofs.Strings.{length_part, length_pieces}
use Rattle.profile.proofs.Tables.{replace_slot}
use Rattle.changes.specs.Change.{slot_at, Has, Placed}

-- ---- slot i of some slots
piece_at : (k n : ℕ) (s : Bytes) (i : ℕ) → i < n → get_or (pieces k n s) i [] ≡ part (k * i) k s
piece_at k zero s i h = absurd (not-suc-le-zero h)
piece_at k (suc n) s zero h = rw (mul-zero k)
piece_at k (suc n) s (suc i) h =
    let e : k + k * i ≡ k * suc i = omega arith in
    piece_at k n (drop k s) i (le_of_suc-le-suc h) ∙ ap (λ (d : Bytes). take k d) (drop-drop (k * i) k s ∙ ap (λ (m : ℕ). drop m s) e)

all_at : {A : Type 0} (f : A → Bool) (xs : List A) (i : ℕ) (d : A) → i < length xs → all f xs ≡ true → f (get_or xs i d) ≡ true
all_at f [] i d h e = absurd (not-suc-le-zero h)
all_at f (x ∷ xs) zero d h e = (and_parts (f x) (all f xs) e).0
all_at f (x ∷ xs) (suc i) d h e = all_at f xs i d (le_of_suc-le-suc h) (and_parts (f x) (all f xs) e).1

module _ (t : Bytes) (i : ℕ) (w : Has t i) where
  -- a slot ends within the table
  pub ends : 4288 * i + 4288 ≤ length t
  ends = omega (arith, w.inside)

  pub slot_part : slot_at t i ≡ part (4288 * i) 4288 t
  unfolding slot_bytes
  slot_part = piece_at 4288 (slot_count t) t i w.inside

  -- what is lent is the slot
  pub lent : (k : ℕ) → k ≡ 4288 → part (4288 * i) k t ≡ slot_at t i
  lent k e = rw e (sym slot_part)

  pub slot_long : length (slot_at t i) ≡ 4288
  slot_long = ap length slot_part ∙ length_part (4288 * i) 4288 t ends

  pub slot_well : well_slot (slot_at t i) ≡ true
  unfolding well_table slot_bytes
  slot_well = all_at well_slot (slot_bytes t) i [] (rw (length_pieces 4288 (slot_count t) t) w.inside) (and_parts (all well_slot (slot_bytes t)) (distinct (slots_of t)) w.well).0

  pub lent_placed : (p k : ℕ) → k ≡ 4288 → place_of (slot_at t i) ≡ p → Placed p (part (4288 * i) k t)
  lent_placed p k e f = rw (lent k e) (record { long = slot_long; well = slot_well; place_is = f })

  -- the slot's part is back as the bytes of a slot that was made of it: the table with that in slot i
  pub changed : Bytes256 t → (f : Bytes → Slot) (y : Bytes) (k : ℕ) → k ≡ 4288 → y ≡ pack (f (part (4288 * i) k t)) → put_mid (4288 * i) k t y ≡ table_of (set (slots_of t) i (f (slot_at t i)))
  changed bytes f y k e g =
      rw (g, lent k e, e, drop-drop 4288 (4288 * i) t) (sym (replace_slot t bytes w.whole w.well i (f (slot_at t i)) w.inside))

  -- with zeros in its place the slot is empty
  pub emptied : Bytes256 t → take (4288 * i) t ++ (zeros 4288 ++ drop (4288 * i + 4288) t) ≡ table_of (set (slots_of t) i empty)
  unfolding pack
  emptied bytes = sym (replace_slot t bytes w.whole w.well i empty w.inside)

-- ---- slot i of any table, its part back with every byte 0
pub wiped : (t : Bytes) (i : ℕ) → i < slot_count t → (y : Bytes) (k : ℕ) → k ≡ 4288 → y ≡ zeros (length (part (4288 * i) k t))
    → put_mid (4288 * i) k t y ≡ take (4288 * i) t ++ (zeros 4288 ++ drop (4288 * i + 4288) t)
wiped t i h y k e g = rw (g, e, length_part (4288 * i) 4288 t (omega (arith, h)), drop-drop 4288 (4288 * i) t)
