-- `slots::well::well_taken` meets its contract: the two bounds, and then the tests that are left. Assumes nothing.
use mathlib.Core.Path.{sym}
use native.Mathlib.Omega.{arith}
use Rattle.slots.proofs.WellSlots.{too_many_hashes, too_long, taken_parts}
use Rattle.slots.proofs.well.well_taken.Goals as goal

pub returns-then-hashes-gt-MOST_HASHES : goal.returns-then-hashes-gt-MOST_HASHES
returns-then-hashes-gt-MOST_HASHES c = sym (too_many_hashes c.args.s.now (omega (arith, c.requires.0.hashes_are, c.if-hashes-gt-MOST_HASHES.true)))

pub returns-then-length-gt-MOST_PAYLOAD : goal.returns-then-length-gt-MOST_PAYLOAD
returns-then-length-gt-MOST_PAYLOAD c = sym (too_long c.args.s.now c.requires.1 (omega (arith, c.requires.0.length_is, c.if-length-gt-MOST_PAYLOAD.true)))

pub returns : goal.returns
returns c =
    let h = c.requires.0 in
    taken_parts c.args.s.now c.told-s c.args.head.place c.args.head.hashes c.args.head.length _ _ _
    h.place_is c.requires.1 h.hashes_are h.length_is c.if-hashes-gt-MOST_HASHES.false c.if-length-gt-MOST_PAYLOAD.false
    c.zero_part-gap.ensures (rw c.payload_in-payload.ensures.0 at c.zero_part-rest.ensures) c.awaits_well-awaits.ensures
