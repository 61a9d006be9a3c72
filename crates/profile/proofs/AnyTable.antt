-- PROFILE 2.5: every call leaves a well-formed table well formed, not only one that began blank.
use Prim.Native.Nat.{◌≤◌}
use mathlib.Core.Path.{◌≡◌, refl, sym, ap, ◌∙◌}
use mathlib.Core.List.{List, [], ◌∷◌, ◌++◌, map}
use mathlib.Core.Bool.{Bool, true, false}
use native.Mathlib.Omega.{arith}
use lib.ListN.{length, length-append}
use Rattle.std.specs.Prelude.{if◌then◌else◌}
use Rattle.profile.specs.Bytes.{Bytes, same, joined, Bytes256}
use Rattle.profile.specs.Slot.{Entry, reserved, enabled, disabled, Slot, empty, taken, distinct}
use Rattle.profile.specs.Table.{slots_of, whole_slots, well_table}
use Rattle.profile.specs.Agent.{Call, agent}
use Rattle.profile.specs.History.{Ledger}
use Rattle.profile.specs.Run.{ledger_of, under_slot, under_setup, under_right, under_slots, under_ledger, Agrees}
use Rattle.profile.proofs.WholeSlots.{one_or_more}
use Rattle.profile.proofs.Lookup.{under_once}
use Rattle.profile.proofs.Tables.{table_slots}
use Rattle.profile.proofs.WellFormed.{table_fits, table_distinct, count_slots, few_slots}
use Rattle.profile.proofs.Sound.{Sound, sound_call, sound_well}

-- ---- the ledger read off the slots of a table agrees with them
-- a right before the setups that follow it: none of them has its handle
past_setups : (a b c : List Entry) → length (a ++ (b ++ c)) ≤ 1 → a ++ (b ++ c) ≡ b ++ (a ++ c)
past_setups [] b c o = refl
past_setups (x ∷ a) [] c o = refl
past_setups (x ∷ a) (y ∷ b) c o = absurd (omega (arith, o, length-append a (y ∷ (b ++ c))))

pub fewer : (h : Bytes) (s : Slot) (t : List Slot) → length (under_slots h (s ∷ t)) ≤ 1 → length (under_slots h t) ≤ 1
fewer h s t o = omega (arith, o, length-append (under_slot h s) (under_slots h t))

right_first : (h : Bytes) (s : Slot) (t : List Slot) → length (under_slots h (s ∷ t)) ≤ 1 → under_slots h t ≡ under_ledger h (ledger_of t)
    → under_slots h (s ∷ t) ≡ joined (map (under_setup h) (ledger_of t).setups) ++ (under_slot h s ++ joined (map (under_right h) (ledger_of t).rights))
right_first h s t o e =
    ap (λ (x : List Entry). under_slot h s ++ x) e
    ∙ past_setups (under_slot h s) (joined (map (under_setup h) (ledger_of t).setups)) (joined (map (under_right h) (ledger_of t).rights)) (rw e at o)

under_ledger_lem : (h : Bytes) (t : List Slot) → length (under_slots h t) ≤ 1 → under_slots h t ≡ under_ledger h (ledger_of t)
under_ledger_lem h [] o = refl
under_ledger_lem h (empty ∷ t) o = under_ledger_lem h t o
under_ledger_lem h (taken k (reserved n) ∷ t) o =
    ap (λ (x : List Entry). under_slot h (taken k (reserved n)) ++ x) (under_ledger_lem h t (fewer h (taken k (reserved n)) t o))
    ∙ setup_first (same h k)
  where
    setup_first : (b : Bool) → (if b then reserved n ∷ [] else []) ++ under_ledger h (ledger_of t)
        ≡ ((if b then reserved n ∷ [] else []) ++ joined (map (under_setup h) (ledger_of t).setups)) ++ joined (map (under_right h) (ledger_of t).rights)
    setup_first true = refl
    setup_first false = refl
under_ledger_lem h (taken k (enabled r) ∷ t) o = right_first h (taken k (enabled r)) t o (under_ledger_lem h t (fewer h (taken k (enabled r)) t o))
under_ledger_lem h (taken k (disabled r) ∷ t) o = right_first h (taken k (disabled r)) t o (under_ledger_lem h t (fewer h (taken k (disabled r)) t o))

pub table_agrees : (t : List Slot) → distinct t ≡ true → Agrees (ledger_of t) t
table_agrees t d = record { each = λ h. under_ledger_lem h t (under_once h t d); once = λ h. under_once h t d }

-- ---- on the bytes
module _ (table : Bytes) (bytes : Bytes256 table) (whole : whole_slots table ≡ true) (well : well_table table ≡ true) where
  some_slots : 1 ≤ length (slots_of table)
  some_slots = rw (count_slots table whole well) (one_or_more table whole)

  pub sound_by : (l : Ledger) → Agrees l (slots_of table) → Sound l table
  sound_by l a =
      record {
        slots = slots_of table;
        packed = sym (table_slots table bytes whole well);
        fits = table_fits table whole well;
        some_slots = some_slots;
        few_slots = few_slots table whole well;
        agrees = a;
      }

  pub sound_table : Sound (ledger_of (slots_of table)) table
  sound_table = sound_by (ledger_of (slots_of table)) (table_agrees (slots_of table) (table_distinct table whole well))

  -- A table after every answer is whole and well formed.
  pub stays_well : (c : Call) → (whole_slots (agent table c).table ≡ true) × (well_table (agent table c).table ≡ true)
  stays_well c = sound_well _ (agent table c).table (sound_call (ledger_of (slots_of table)) table sound_table c)
