-- `listing::lines::put_sizes` meets its contract: the three numbers, each after a space, and the newline. Assumes nothing.
use native.Mathlib.Omega.{arith}
use Rattle.texts.proofs.Writing.{wrote_length}
use Rattle.listing.proofs.Writing.{field_most, field_few}
use Rattle.listing.proofs.SlotLines.{sizes_there}
use Rattle.listing.proofs.lines.put_sizes.Goals as goal

pub put_field-requires : goal.put_field-requires
put_field-requires c = (omega arith, omega (arith, field_few 0 c.args.hashes c.requires.0))

pub put_field-requires-2 : goal.put_field-requires-2
put_field-requires-2 c =
    let u = c.put_field.ensures.wrote in
    (omega arith, omega (arith, field_few 0 c.args.hashes c.requires.0, field_most c.from.result, u.ends, wrote_length u))

pub put_field-requires-3 : goal.put_field-requires-3
put_field-requires-3 c =
    let u = c.put_field.ensures.wrote in
    let v = c.put_field-2.ensures.wrote in (
      omega arith,
      omega (arith, field_few 0 c.args.hashes c.requires.0, field_most c.from.result, field_few 3 c.args.size c.requires.1, u.ends, wrote_length u, v.ends, wrote_length v),
    )

pub word-requires : goal.word-requires
word-requires c =
    let u = c.put_field.ensures.wrote in
    let v = c.put_field-2.ensures.wrote in
    let w = c.put_field-3.ensures.wrote in
    omega
    (arith, field_few 0 c.args.hashes c.requires.0, field_most c.from.result, field_few 3 c.args.size c.requires.1, u.ends, wrote_length u, v.ends, wrote_length v, w.ends, wrote_length w)

pub returns : goal.returns
returns c = sizes_there c.args.hashes c.args.count c.args.size c.put_field.ensures (rw c.from.ensures at c.put_field-2.ensures) c.put_field-3.ensures c.word.ensures
