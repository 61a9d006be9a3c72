-- What the salvage gives, by its parts, and what settling one slot does.
use Rattle.std.specs.Prelude.{ℕ, ◌≡◌, [], get_or, set, take, Result, Ok, Err}
use Rattle.codes.specs.Codes.{fault_number}
use Rattle.codes.specs.declared.fault.Fault.{Fault}
use Rattle.profile.specs.Bytes.{Bytes, joined}
use Rattle.profile.specs.Table.{slot_bytes, slots_of}
use Rattle.profile.specs.Salvage.{Finding, judge, left_by, Salvaged}

-- the number that a salvage gives: of the slots cleared, or of the fault that it refuses by
abbrev pub number_given : Result ℕ Fault → ℕ
number_given (Ok n) = n
number_given (Err f) = fault_number f

-- the number, and table and report afterwards
abbrev pub salvaged : ℕ → Bytes → Bytes → Salvaged
salvaged n table report = record { number = n; table = table; report = report }

-- what is found of slot i of a table, whose lower slots are settled
abbrev pub found_at : ℕ → Bytes → Finding
found_at i t = judge (take i (slots_of t)) (get_or (slot_bytes t) i [])

-- slot i is kept or cleared by what is found of it, and every other byte stays
pub record Settled (i : ℕ) (t : Bytes) (found : Finding) (left : Bytes) : Type 0 where
  pub found_is : found ≡ found_at i t
  pub left_is : left ≡ joined (set (slot_bytes t) i (left_by (found_at i t) (get_or (slot_bytes t) i [])))
