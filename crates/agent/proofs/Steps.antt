-- From the tests of a call and what its frame does to the profile's agent. Assumes nothing.
use Prim.Native.Nat.{ℕ, ◌<◌}
use mathlib.Core.Path.{◌≡◌, refl, sym, ap, ◌∙◌}
use mathlib.Core.Bool.{not}
use native.Mathlib.Omega.{arith}
use borrow.Author.Tests.{ne_eqb}
use lib.Dec.{eqb, leb, ltb}
use lib.ListN.{length}
use Rattle.std.specs.Prelude.{if◌then◌else◌}
use Rattle.codes.specs.declared.fault.Fault.{Fault}
use Rattle.codes.specs.declared.fault.Fault.TheVariants.{ReplyBufferShort, TableLength, TableNotWellFormed, NoFrame, StartOutside, TallyDiffers, ReportBufferShort, TotalOutside, WriterBufferShort, WriterFields, NoReply}
use Rattle.codes.specs.Codes.{fault_number}
use Rattle.profile.specs.Bytes.{Bytes}
use Rattle.profile.specs.Table.{slot_count, whole_slots, well_table}
use Rattle.profile.specs.Tally.{Tally, tally_in, same_tally}
use Rattle.profile.specs.Agent.{Outcome, refuse, agent}
use Rattle.profile.proofs.Logic.{if_cases, if_two, not_false, ltb_over, leb_over}
use Rattle.profile.proofs.TallyLaws.{same_tally_eq}
use Rattle.profile.proofs.Numbers.{obeyed}
use Rattle.tallies.specs.declared.update.Change.{Change}
use Rattle.tallies.specs.Changes.{updated}
use Rattle.decisions.specs.Serving.{Ready}
use Rattle.admission.specs.Tests.{tests_of}
use Rattle.serving.specs.Call.{outcome, call_of}
use Rattle.serving.specs.Obeying.{Obeys}

-- the tests before the frame are those of the agent
by_tests : (table : Bytes) (tally : Tally) (start : ℕ) (frame buffer : Bytes)
    → agent table (call_of tally start frame buffer)
    ≡ (if eqb (tests_of table tally start buffer) 0 then obeyed table (call_of tally start frame buffer) else refuse (tests_of table tally start buffer) table (call_of tally start frame buffer))
unfolding agent tests_of
by_tests table tally start frame buffer =
    if_two P (ltb (length buffer) 4279) refl λ _.
    if_two P (not (whole_slots table)) refl λ _.
    if_two P (leb (slot_count table) start) refl λ _.
    if_two P (not (well_table table)) refl λ _.
    if_two P (not (same_tally tally (tally_in table))) refl λ _. refl
  where
    P : Outcome → ℕ → Type 0
    P o n = o ≡ (if eqb n 0 then obeyed table (call_of tally start frame buffer) else refuse n table (call_of tally start frame buffer))

-- where none fails
pub record Passed (table : Bytes) (tally : Tally) (start : ℕ) (buffer : Bytes) : Type 0 where
  pub ready : Ready table buffer
  pub inside : start < slot_count table
  pub lent : tally ≡ tally_in table

pub passed : (table : Bytes) (tally : Tally) (start : ℕ) (buffer : Bytes) → tests_of table tally start buffer ≡ 0 → Passed table tally start buffer
unfolding tests_of
passed table tally start buffer =
    if_cases P (ltb (length buffer) 4279) (λ _ z. absurd (omega (arith, z))) λ long.
    if_cases P (not (whole_slots table)) (λ _ z. absurd (omega (arith, z))) λ whole.
    if_cases P (leb (slot_count table) start) (λ _ z. absurd (omega (arith, z))) λ inside.
    if_cases P (not (well_table table)) (λ _ z. absurd (omega (arith, z))) λ well.
    if_cases P (not (same_tally tally (tally_in table))) (λ _ z. absurd (omega (arith, z))) λ same _.
    record {
      ready = record { whole = not_false (whole_slots table) whole; well = not_false (well_table table) well; room = ltb_over (length buffer) 4279 long };
      inside = leb_over (slot_count table) start inside;
      lent = same_tally_eq tally (tally_in table) (not_false (same_tally tally (tally_in table)) same);
    }
  where
    P : ℕ → Type 0
    P n = n ≡ 0 → Passed table tally start buffer

-- ---- no fault has the number 0
pub not_0 : (f : Fault) → fault_number f ≡ 0 → ⊥
not_0 ReplyBufferShort e = omega (arith, e)
not_0 TableLength e = omega (arith, e)
not_0 TableNotWellFormed e = omega (arith, e)
not_0 NoFrame e = omega (arith, e)
not_0 StartOutside e = omega (arith, e)
not_0 TallyDiffers e = omega (arith, e)
not_0 ReportBufferShort e = omega (arith, e)
not_0 TotalOutside e = omega (arith, e)
not_0 WriterBufferShort e = omega (arith, e)
not_0 WriterFields e = omega (arith, e)
not_0 NoReply e = omega (arith, e)

-- ---- the call, outcome by outcome
module _ (table : Bytes) (tally : Tally) (start : ℕ) (frame buffer : Bytes) where
  pub given_back : (n : ℕ) → n ≡ tests_of table tally start buffer → (n ≡ 0 → ⊥) → outcome n buffer table tally ≡ agent table (call_of tally start frame buffer)
  given_back n e z = sym (by_tests table tally start frame buffer ∙ rw (← e, ne_eqb n 0 z) refl)

  pub answered : (n : ℕ) → n ≡ tests_of table tally start buffer → n ≡ 0 → {table' buffer' : Bytes} {m : ℕ} {y : Change} → Obeys table start frame buffer table' buffer' m y
      → (tally' : Tally) → tally' ≡ updated tally y → outcome m buffer' table' tally' ≡ agent table (call_of tally start frame buffer)
  answered n e z {table'} {buffer'} {m} {y} o tally' u = here ∙ sym there
    where
      lent : tally ≡ tally_in table
      lent = (passed table tally start buffer (sym e ∙ z)).lent

      here : outcome m buffer' table' tally' ≡ obeyed table (call_of (tally_in table) start frame buffer)
      here = ap (outcome m buffer' table') (u ∙ ap (λ (x : Tally). updated x y) lent) ∙ o.is

      there : agent table (call_of tally start frame buffer) ≡ obeyed table (call_of (tally_in table) start frame buffer)
      there = by_tests table tally start frame buffer ∙ rw (← e, z) (ap (λ (x : Tally). obeyed table (call_of x start frame buffer)) lent)
