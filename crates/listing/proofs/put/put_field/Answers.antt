-- `listing::put::put_field` meets its contract: a space, and the number after it. Assumes nothing.
use native.Mathlib.Omega.{arith}
use Rattle.texts.proofs.Writing.{wrote_length}
use Rattle.listing.proofs.Writing.{field_there, field_length}
use Rattle.listing.proofs.put.put_field.Goals as goal

pub word-requires : goal.word-requires
word-requires c = omega (arith, c.requires.1, field_length c.args.n)

pub number-requires : goal.number-requires
number-requires c =
    let w = c.word.ensures.wrote in
    (c.requires.0, omega (arith, c.requires.1, field_length c.args.n, w.ends, wrote_length w))

pub returns : goal.returns
returns c = field_there c.args.n c.word.ensures c.number.ensures
