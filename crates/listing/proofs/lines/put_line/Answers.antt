-- `listing::lines::put_line` meets its contract: the front of the line, and the rest. Assumes nothing.
use native.Mathlib.Omega.{arith}
use Rattle.slots.specs.Places.{place_number}
use Rattle.texts.proofs.Writing.{wrote_length}
use Rattle.listing.proofs.SlotLines.{label_most, line_there}
use Rattle.listing.proofs.lines.put_line.Goals as goal

pub put_sizes-requires : goal.put_sizes-requires
put_sizes-requires c =
    let h = c.head_of-head in
    let u = c.put_label.ensures.wrote in (
      omega (arith, h.ensures.hashes_are),
      omega (arith, h.ensures.length_is),
      omega (arith, label_most c.args.i (place_number h.result.place) c.requires.0, u.ends, wrote_length u),
    )

pub returns : goal.returns
returns c = line_there c.args.i c.args.slot.now c.head_of-head.result c.head_of-head.ensures c.put_label.ensures _ c.number_of.ensures c.put_sizes.ensures
