-- PROFILE 2.1: a table cut into its slots: how long it is, how many slots it has, and slots joined again.
use Prim.Native.Nat.{◌*◌, ◌%◌, ◌≤◌}
use mathlib.Core.Path.{◌≡◌, sym, ap, ◌∙◌}
use mathlib.Core.List.{List, [], append-nil}
use mathlib.Core.Bool.{true}
use native.Mathlib.Omega.{arith}
use lib.Dec.{eqb}
use lib.ListN.{length}
use Rattle.profile.specs.Bytes.{Bytes, from1to, joined, pieces, Each}
use Rattle.profile.specs.Table.{slot_count, slot_bytes, whole_slots}
use Rattle.profile.proofs.Logic.{and_parts, eqb_eq, from_1_to_says}
use Rattle.profile.proofs.Strings.{length_each, each_pieces, pieces_joined}

pub slots_joined : (qs : List Bytes) → Each 4288 qs → slot_bytes (joined qs) ≡ qs
unfolding slot_bytes
slots_joined qs e =
    let n : slot_count (joined qs) ≡ length qs = rw (length_each 4288 qs e) (omega arith) in
    rw n (ap (pieces 4288 (length qs)) (sym (append-nil (joined qs))) ∙ pieces_joined 4288 qs [] e)

module _ (table : Bytes) (whole : whole_slots table ≡ true) where
  parts : (eqb (length table % 4288) 0 ≡ true) × (from1to 15 (slot_count table) ≡ true)
  unfolding whole_slots
  parts = and_parts (eqb (length table % 4288) 0) (from1to 15 (slot_count table)) whole

  pub size : length table ≡ 4288 * slot_count table
  size = omega (arith, eqb_eq (length table % 4288) 0 parts.0)

  pub cut : Each 4288 (slot_bytes table)
  unfolding slot_bytes
  cut = each_pieces 4288 (slot_count table) table (omega (arith, size))

  pub one_or_more : 1 ≤ slot_count table
  one_or_more = (from_1_to_says 15 (slot_count table) parts.1).0

  pub at_most_15 : slot_count table ≤ 15
  at_most_15 = (from_1_to_says 15 (slot_count table) parts.1).1
