-- `texts::Text::numbered` meets its contract: the word, the number, a newline. Assumes nothing.
use native.Mathlib.Omega.{arith}
use Rattle.texts.proofs.Writing.{numbered_there, wrote_length}
use Rattle.texts.proofs.Text.numbered.Goals as goal

pub number-requires : goal.number-requires
number-requires c = let w = c.word.ensures.wrote in (c.requires.0, omega (arith, c.requires.1, w.ends, wrote_length w))

pub word-requires-2 : goal.word-requires-2
word-requires-2 c =
    let w = c.word.ensures.wrote in
    let n = c.number.ensures.wrote in
    omega (arith, c.requires.1, w.ends, wrote_length w, n.ends, wrote_length n)

pub returns : goal.returns
returns c = numbered_there c.args.word.now c.args.n c.word.ensures c.number.ensures c.word-2.ensures
