-- `texts::Text::refused` meets its contract: a line of a word and the number. Assumes nothing.
use native.Mathlib.Omega.{arith}
use Rattle.texts.proofs.Digits.{number_few}
use Rattle.texts.proofs.Writing.{is_refusal}
use Rattle.texts.proofs.Text.refused.Goals as goal

pub numbered-requires : goal.numbered-requires
numbered-requires c = (omega arith, omega (arith, number_few 2 _ c.requires.0))

pub returns : goal.returns
returns c = rw (is_refusal c.args.n) at c.numbered.ensures
