-- `reports::lines::put_finding` meets its contract, byte by byte. Assumes nothing.
use native.Mathlib.Omega.{arith}
use Rattle.reports.proofs.FindingLines.{is_kept, is_damaged, is_repeated}
use Rattle.reports.proofs.lines.put_finding.Goals as goal

pub returns-in-0 : goal.returns-in-0
returns-in-0 c = is_kept c.in-0.is c.word.ensures

pub returns-in-1 : goal.returns-in-1
returns-in-1 c = is_damaged c.in-1.is c.word-in-1.ensures

pub returns-in_default : goal.returns-in_default
returns-in_default c = is_repeated c.args.found (λ z. omega (arith, z)) (λ z. omega (arith, z)) c.word-in_default.ensures
