-- `slots::well::well_slot` meets its contract: the two lowest bits of byte 0, and the rest. Assumes nothing.
use Rattle.slots.proofs.WellSlots.{well_parts}
use Rattle.slots.proofs.well.well_slot.Goals as goal

pub returns : goal.returns
returns c = well_parts c.args.s.now c.args.rules _ _ c.well_low-low.ensures c.well_rest-rest.ensures
