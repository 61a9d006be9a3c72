-- One slot settled: kept, the table is as it was; cleared, zeros stand in its place. Assumes nothing.
use Prim.Native.Nat.{ℕ, zero, suc, ◌+◌, ◌*◌, ◌<◌}
use mathlib.Core.Path.{◌≡◌, refl, sym, ap, ◌∙◌}
use mathlib.Core.List.{List, [], ◌∷◌, ◌++◌}
use mathlib.Core.Bool.{true}
use native.Mathlib.Omega.{arith}
use lib.ListN.{get_or, take, drop, set}
use lib.Seq.{take_all}
use Rattle.profile.specs.Bytes.{Bytes, zeros, joined}
use Rattle.profile.specs.Table.{slot_count, slot_bytes, whole_slots}
use Rattle.profile.specs.Salvage as salvage
use Rattle.profile.specs.Salvage.{left_by}
use Rattle.profile.proofs.Strings.{joined_pieces, joined_set}
use Rattle.profile.proofs.WholeSlots.{size}
use Rattle.codes.specs.Codes.{finding_meant}
use Rattle.codes.specs.declared.finding.Finding.{Finding}
use Rattle.codes.specs.declared.finding.Finding.TheVariants.{Kept, Damaged, Repeated}
use Rattle.salvage.specs.Salvages.{found_at, Settled}

set_same : (ps : List Bytes) (i : ℕ) → set ps i (get_or ps i []) ≡ ps
set_same [] i = refl
set_same (p ∷ ps) zero = refl
set_same (p ∷ ps) (suc i) = ap {B = List Bytes} (λ r. p ∷ r) (set_same ps i)

-- ---- what is left of a slot, by what is found of it
left_kept : (f : Finding) (s : Bytes) → f ≡ Kept → left_by (finding_meant f) s ≡ s
left_kept Kept s e = refl
left_kept Damaged s e = absurd (cc)
left_kept Repeated s e = absurd (cc)

left_other : (f : Finding) (s : Bytes) → (f ≡ Kept → ⊥) → left_by (finding_meant f) s ≡ zeros 4288
left_other Kept s n = absurd (n refl)
left_other Damaged s n = refl
left_other Repeated s n = refl

module _ (t : Bytes) (i : ℕ) (whole : whole_slots t ≡ true) (inside : i < slot_count t) (f : Finding) (is : finding_meant f ≡ found_at i t) where
  -- the slot with what is left of it in its place
  with_left : (s : Bytes) → left_by (finding_meant f) (get_or (slot_bytes t) i []) ≡ s
      → joined (set (slot_bytes t) i s) ≡ joined (set (slot_bytes t) i (left_by (found_at i t) (get_or (slot_bytes t) i [])))
  with_left s e = ap (λ (x : Bytes). joined (set (slot_bytes t) i x)) (sym e ∙ ap (λ (x : salvage.Finding). left_by x (get_or (slot_bytes t) i [])) is)

  pub stays : f ≡ Kept → Settled i t (finding_meant f) t
  unfolding slot_bytes
  stays e =
      record {
        found_is = is;
        left_is =
            sym (ap joined (set_same (slot_bytes t) i) ∙ joined_pieces 4288 (slot_count t) t ∙ take_all (4288 * slot_count t) t (omega (arith, size t whole)))
            ∙ with_left (get_or (slot_bytes t) i []) (left_kept f (get_or (slot_bytes t) i []) e);
      }

  pub goes : (f ≡ Kept → ⊥) → (u : Bytes) → u ≡ take (4288 * i) t ++ (zeros 4288 ++ drop (4288 * i + 4288) t) → Settled i t (finding_meant f) u
  unfolding slot_bytes
  goes n u e =
      record {
        found_is = is;
        left_is =
            e
            ∙ sym (joined_set 4288 (slot_count t) t i (zeros 4288) (size t whole) inside)
            ∙ with_left (zeros 4288) (left_other f (get_or (slot_bytes t) i []) n);
      }
