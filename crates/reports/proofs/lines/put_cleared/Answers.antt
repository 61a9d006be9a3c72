-- `reports::lines::put_cleared` meets its contract: a line of a word and the number. Assumes nothing.
use native.Mathlib.Omega.{arith}
use Rattle.texts.proofs.Digits.{number_few}
use Rattle.reports.proofs.FindingLines.{is_cleared}
use Rattle.reports.proofs.lines.put_cleared.Goals as goal

pub numbered-requires : goal.numbered-requires
numbered-requires c = (omega arith, omega (arith, number_few 1 _ c.requires.0))

pub returns : goal.returns
returns c = rw (is_cleared c.args.n) at c.numbered.ensures
