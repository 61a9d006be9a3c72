-- `queries::handles::put_handles` meets its contract. The invariant: the list over the slots passed is counted, and its first handles are in the reply. Assumes nothing.
use Prim.Native.Nat.{◌≤◌}
use native.Mathlib.Omega.{arith}
use Rattle.profile.specs.Table.{slot_count}
use Rattle.tables.proofs.SlotParts.{length_slot}
use Rattle.queries.proofs.Growth.{lent_part, few_in_slot, passed_none, passed_all, room_next, pass_other, pass_listed}
use Rattle.queries.proofs.handles.put_handles.Goals.{then-is_listed, else-is_listed}
use Rattle.queries.proofs.handles.put_handles.Goals as goal

pub loop-slot-init : goal.loop-slot-init
loop-slot-init c = passed_none _ _ _ _

pub is_listed-requires : goal.is_listed-requires
is_listed-requires c =
    let t = c.args.table.now in
    let w = lent_part t _ c.slots_in-slot-items.ensures c.loop-slot.slot-index c.loop-slot-test.true in
    few_in_slot t c.args.reply.now c.requires c.loop-slot.slot-index w.0 _ w.1

pub put_next-requires : goal.put_next-requires
put_next-requires c =
    let w = lent_part c.args.table.now _ c.slots_in-slot-items.ensures c.loop-slot.slot-index c.loop-slot-test.true in
    room_next _ _ _ _ c.requires c.loop-slot.slot-index c.loop-slot.found c.loop-slot.reply w.0 c.loop-slot.invariant

pub loop-slot-preserved : goal.loop-slot-preserved
loop-slot-preserved c =
    let v = c.loop-slot in
    let t = c.args.table.now in
    let w = lent_part t _ c.slots_in-slot-items.ensures v.slot-index c.loop-slot-test.true in
    elim c.if-is_listed.branch [
      | then-is_listed b ↦ rw (b.found-is, b.reply-is)
          (pass_listed _ _ _ _ c.requires v.slot-index v.found v.reply w.0 v.invariant _ w.1 (rw w.1 (length_slot t v.slot-index w.0))
          (rw b.if-is_listed.true at c.is_listed.ensures) b.put_next.new.reply b.put_next.auto.reply b.put_next.ensures)
      | else-is_listed b ↦ rw (b.found-is, b.reply-is)
          (pass_other _ _ _ _ c.requires v.slot-index v.found v.reply w.0 v.invariant _ w.1 (rw b.if-is_listed.false at c.is_listed.ensures))
    ]

pub shape_of-reply : goal.shape_of-reply
shape_of-reply c = c.loop-slot.invariant.sized

pub returns : goal.returns
returns c =
    let end : slot_count c.args.table.now ≤ c.loop-slot.slot-index = omega (arith, c.slots_in-slot-items.ensures.1, c.loop-slot-test.false) in
    passed_all _ _ _ _ c.loop-slot.slot-index c.loop-slot.found c.loop-slot.reply end c.loop-slot.invariant
