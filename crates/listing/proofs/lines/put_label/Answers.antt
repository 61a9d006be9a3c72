-- `listing::lines::put_label` meets its contract: the index, a space and the place. Assumes nothing.
use native.Mathlib.Omega.{arith}
use Rattle.slots.specs.Places.{place_number}
use Rattle.texts.proofs.Digits.{number_few}
use Rattle.texts.proofs.Writing.{wrote_length}
use Rattle.listing.proofs.SlotLines.{label_there}
use Rattle.listing.proofs.lines.put_label.Goals as goal

pub number-requires : goal.number-requires
number-requires c = (omega arith, omega (arith, number_few 1 _ c.requires.0))

pub word-requires : goal.word-requires
word-requires c =
    let n = c.number.ensures.wrote in
    omega (arith, number_few 1 _ c.requires.0, n.ends, wrote_length n)

pub put_place-requires : goal.put_place-requires
put_place-requires c =
    let n = c.number.ensures.wrote in
    let w = c.word.ensures.wrote in
    omega (arith, number_few 1 _ c.requires.0, n.ends, wrote_length n, w.ends, wrote_length w)

pub returns : goal.returns
returns c = label_there c.args.i (place_number c.args.place) c.number.ensures c.word.ensures c.put_place.ensures
