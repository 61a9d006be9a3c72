-- The salvage, outcome by outcome. Assumes nothing.
use Prim.Native.Nat.{ℕ, ◌≤◌, ◌<◌}
use mathlib.Core.Path.{◌≡◌}
use mathlib.Core.Bool.{true, false}
use native.Mathlib.Omega.{arith}
use lib.Dec.{ltb, lt→ltb}
use lib.ListN.{length}
use Rattle.profile.specs.Bytes.{Bytes, over}
use Rattle.profile.specs.Table.{slot_count, whole_slots}
use Rattle.profile.specs.Salvage.{cleared, findings_of, left_of, report_of, salvage}
use Rattle.profile.proofs.Logic.{T→eq}
use Rattle.profile.proofs.Salvage.{not_refused}
use Rattle.profile.proofs.WholeSlots.{at_most_15}
use Rattle.salvage.specs.Salvages.{salvaged}
use Rattle.salvage.proofs.Reporting.{cleared_all, few_to}

module _ (t : Bytes) where
  -- of so few slots no more are cleared
  pub few_left : whole_slots t ≡ true → (n : ℕ) → n ≡ cleared (findings_of t) → n ≤ 15
  few_left e n a = omega (arith, a, cleared_all t (slot_count t) (omega arith), few_to (slot_count t) t, at_most_15 t e)

module _ (t r : Bytes) where
  pub by_length : whole_slots t ≡ false → salvaged 102 t r ≡ salvage t r
  unfolding salvage
  by_length e = rw e

  pub by_report : whole_slots t ≡ true → length r < slot_count t → salvaged 107 t r ≡ salvage t r
  unfolding salvage
  by_report e h = rw (e, T→eq (ltb (length r) (slot_count t)) (lt→ltb (length r) (slot_count t) h))

  pub by_slots : whole_slots t ≡ true → slot_count t ≤ length r → (n : ℕ) (u p : Bytes) → n ≡ cleared (findings_of t) → u ≡ left_of t → p ≡ over (report_of t) r
      → salvaged n u p ≡ salvage t r
  by_slots e h n u p a b c = rw (not_refused t e r h, a, b, c)
