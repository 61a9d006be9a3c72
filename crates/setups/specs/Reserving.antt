-- What is decided of kind 1 before anything is changed.
use Rattle.std.specs.Prelude.{ℕ, ◌<◌, ◌≡◌, set, Result, MatchResult}
use Rattle.profile.specs.Bytes.{Bytes}
use Rattle.profile.specs.Slot.{reserved, taken}
use Rattle.profile.specs.Table.{slot_count, slots_of}
use Rattle.profile.specs.Request.{setup}
use Rattle.profile.specs.Agent.{Answer, deny, nothing, done, first_empty_from}
use Rattle.codes.specs.declared.refusal.Refusal.{Refusal}
use Rattle.codes.specs.Codes.{refusal_meant}
use Rattle.decisions.specs.Serving.{answer_at}

-- what the agent answers to a setup that searches from the start
abbrev pub answer_from : ℕ → Bytes → Bytes → ℕ → Answer
answer_from start table h n = answer_at (first_empty_from start (slots_of table)) table (setup h n)

-- slot i is the first empty one from the start, and the agent reserves it
pub record Reserves (start : ℕ) (table h : Bytes) (n i : ℕ) : Type 0 where
  pub first : i ≡ first_empty_from start (slots_of table)
  pub inside : i < slot_count table
  pub answer : answer_from start table h n ≡ done nothing (set (slots_of table) i (taken h (reserved n)))

-- refused as the agent refuses it, or the slot that it reserves
abbrev pub SetsUp : ℕ → Bytes → Bytes → ℕ → Result ℕ Refusal → Type 0
SetsUp start table h n r = MatchResult r (Reserves start table h n) (λ x. answer_from start table h n ≡ deny (refusal_meant x))
