-- A table is judged by its slots and then by their handles; the slots of a well-formed table are well formed. Assumes nothing.
use Prim.Native.Nat.{ℕ, zero, suc, ◌*◌, ◌<◌}
use mathlib.Core.Path.{◌≡◌, sym, ◌∙◌}
use mathlib.Core.List.{List, [], ◌∷◌, map}
use mathlib.Core.Bool.{Bool, true, false}
use native.Mathlib.Nat.{not-suc-le-zero, le_of_suc-le-suc}
use lib.ListN.{length, get_or}
use Rattle.profile.specs.Bytes.{Bytes, part, all}
use Rattle.profile.specs.Slot.{distinct}
use Rattle.profile.specs.Table.{unpack, well_slot, well_table, slot_count, slot_bytes, slots_of}
use Rattle.profile.specs.Turning.{well_table_before}
use Rattle.profile.proofs.Logic.{and_parts}
use Rattle.slots.specs.declared.well.Rules.{Rules}
use Rattle.slots.specs.declared.well.Rules.TheVariants.{Today, Before}
use Rattle.slots.specs.Rules.{well_by}
use Rattle.tables.specs.Judged.{table_by}
use Rattle.tables.proofs.SlotParts.{length_bytes, get_d_slots}

all_at : {A : Type 0} (f : A → Bool) (xs : List A) (i : ℕ) (d : A) → all f xs ≡ true → i < length xs → f (get_or xs i d) ≡ true
all_at f [] i d a h = absurd (not-suc-le-zero h)
all_at f (x ∷ xs) zero d a h = (and_parts (f x) (all f xs) a).0
all_at f (x ∷ xs) (suc i) d a h = all_at f xs i d (and_parts (f x) (all f xs) a).1 (le_of_suc-le-suc h)

pub slot_well : (t : Bytes) (i : ℕ) → well_table t ≡ true → i < slot_count t → well_slot (part (4288 * i) 4288 t) ≡ true
unfolding well_table
slot_well t i w h =
    rw (get_d_slots t i h) at
    (all_at well_slot (slot_bytes t) i [] (and_parts (all well_slot (slot_bytes t)) (distinct (slots_of t)) w).0 (rw (length_bytes t) h))

-- ---- by either rules
module _ (t : Bytes) (r : Rules) (ss : List Bytes) (cut : ss ≡ slot_bytes t) {a : Bool} (e : a ≡ all (well_by r) ss) where
  pub not_all : a ≡ false → a ≡ table_by r t
  unfolding well_table well_table_before
  not_all n = n ∙ go r (rw (← cut) (sym e ∙ n))
    where
      go : (r : Rules) → all (well_by r) (slot_bytes t) ≡ false → false ≡ table_by r t
      go Before f = rw f
      go Today f = rw f

  pub all_then : a ≡ true → {d : Bool} → d ≡ distinct (map unpack ss) → d ≡ table_by r t
  unfolding well_table well_table_before slots_of
  all_then y {d} q = (rw cut at q) ∙ go r (rw (← cut) (sym e ∙ y))
    where
      go : (r : Rules) → all (well_by r) (slot_bytes t) ≡ true → distinct (slots_of t) ≡ table_by r t
      go Before f = rw f
      go Today f = rw f
