-- PROFILE 2.8 and 8.5 in worked cases: tallies by hand, tallies worked out, and what it is to carry one along.
use Rattle.std.specs.Prelude.{◌≡◌, List, [], ◌∷◌, ◌++◌, map, true, false, replicate}
use Rattle.profile.specs.Bytes.{Bytes}
use Rattle.profile.specs.Slot.{None, Some, right_with, reserved, enabled, disabled, Slot, empty, taken}
use Rattle.profile.specs.Tally.{Tally, tally_with, in_slot, plus, tally_of, tally_in, same_tally, Tallied, tallied, work_out}
use Rattle.profile.specs.Agent.{Call}
use Rattle.profile.specs.Run.{numbers_then}
use Rattle.profile.specs.CaseBytes.{hex, changed, H1, H2, K, L, A, five}
use Rattle.profile.specs.CaseTables.{blank, after1, after7, after9, counted7, bare, bare_lent, hashed2, lent2, roomy, longest, waiting}
use Rattle.profile.specs.StartCases.{calling, setup1, install1, remove1, blank1, right5}
use Rattle.profile.specs.Tallies.{Carries}

-- ---- slots, and what each counts for
unfoldable pub slots : List (Slot × Tally)
slots =
    (empty, tally_with 1 0 0 0 0)
    ∷ (taken H1 (reserved 5), tally_with 0 1 0 0 0)
    ∷ (taken H1 (enabled (right_with K (Some 7) (A ∷ []) five)), tally_with 0 0 1 0 5)
    ∷ (taken H2 (disabled (right_with L None [] (hex "BC"))), tally_with 0 0 0 1 1)
    ∷ []

-- ---- tables, and their tallies
unfoldable pub tables : List (Bytes × Tally)
tables =
    (blank, tally_with 1 0 0 0 0)
    ∷ (after1, tally_with 0 1 0 0 0)
    ∷ (roomy, tally_with 0 1 0 0 0)
    ∷ (after7, tally_with 0 0 1 0 5)
    ∷ (longest, tally_with 0 0 1 0 4096)
    ∷ (after9, tally_with 0 0 0 1 5)
    ∷ (bare ++ bare_lent, tally_with 0 0 1 1 10)
    ∷ (lent2, tally_with 0 0 0 1 1)
    ∷ (blank ++ after7 ++ blank ++ blank ++ after9 ++ waiting ++ hashed2, tally_with 3 1 2 1 11)
    ∷ (roomy ++ waiting ++ blank, tally_with 1 2 0 0 0)
    ∷ []

-- ---- tables, numbers that are there before, and what the function that works a tally out gives
unfoldable pub workings : List (Bytes × (Tally × Tallied))
workings =
    (blank, (tally_with 1 0 0 0 0, tallied 0 (tally_with 1 0 0 0 0)))
    ∷ (after7 ++ waiting, (tally_with 9 8 7 6 65535, tallied 0 (tally_with 0 1 1 0 5)))
    -- 102 by the length, before 103: what was there stays
    ∷ ([], (tally_with 1 2 3 4 5, tallied 102 (tally_with 1 2 3 4 5)))
    ∷ (replicate 4287 0, (tally_with 1 2 3 4 5, tallied 102 (tally_with 1 2 3 4 5)))
    ∷ (0x01 ∷ blank, (tally_with 1 2 3 4 5, tallied 102 (tally_with 1 2 3 4 5)))
    ∷ (replicate 68608 0, (tally_with 1 2 3 4 5, tallied 102 (tally_with 1 2 3 4 5)))
    -- 103: a slot that is not well formed, a count without its bit, one handle in two slots
    ∷ (blank ++ changed 191 0x01 after7, (tally_with 1 2 3 4 5, tallied 103 (tally_with 1 2 3 4 5)))
    ∷ (changed 0 0x84 counted7, (tally_with 1 2 3 4 5, tallied 103 (tally_with 1 2 3 4 5)))
    ∷ (after1 ++ after7, (tally_with 1 2 3 4 5, tallied 103 (tally_with 1 2 3 4 5)))
    ∷ []

-- ---- a course that comes and goes on one slot, with a frame that is none on the way, and the tally carried along
abbrev pub visit : List Call
visit = calling blank1 0 setup1 ∷ calling (tally_with 0 1 0 0 0) 0 install1 ∷ calling right5 0 [] ∷ calling right5 0 remove1 ∷ calling blank1 1 setup1 ∷ calling blank1 0 setup1 ∷ []

-- ---- these are what the definitions say
pub record Hold : Type 0 where
  pub each : map (λ c. in_slot c.0) slots ≡ map (λ c. c.1) slots
  pub added : plus (tally_with 1 20 300 4000 50000) (tally_with 2 30 400 5000 10000) ≡ tally_with 3 50 700 9000 60000
  pub none : tally_of [] ≡ tally_with 0 0 0 0 0
  pub together : tally_of (map (λ c. c.0) slots) ≡ tally_with 1 1 1 1 6
  pub counted : map (λ c. tally_in c.0) tables ≡ map (λ c. c.1) tables
  pub worked : map (λ c. work_out c.0 c.1.0) workings ≡ map (λ c. c.1.1) workings
  -- the same five numbers, and no other
  pub alike : same_tally (tally_with 1 2 3 4 5) (tally_with 1 2 3 4 5) ≡ true
  pub different : map (same_tally (tally_with 1 2 3 4 5)) (tally_with 0 2 3 4 5 ∷ tally_with 1 3 3 4 5 ∷ tally_with 1 2 4 4 5 ∷ tally_with 1 2 3 5 5 ∷ tally_with 1 2 3 4 6 ∷ [])
      ≡ false ∷ false ∷ false ∷ false ∷ false ∷ []
  -- the course's calls carry one tally, and their numbers; not with the first tally all along
  pub carried : Carries blank blank1 visit
  pub numbers : numbers_then blank visit ≡ 0 ∷ 0 ∷ 104 ∷ 0 ∷ 105 ∷ 0 ∷ []
  pub not_carried : ¬ Carries blank blank1 (calling blank1 0 setup1 ∷ calling blank1 0 install1 ∷ [])
  pub other_first : ¬ Carries blank right5 (calling blank1 0 setup1 ∷ [])
