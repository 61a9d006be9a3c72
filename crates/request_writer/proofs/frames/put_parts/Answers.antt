-- `request_writer::frames::put_parts` meets its contract, part by part. Assumes nothing.
use native.Mathlib.Omega.{arith}
use mathlib.Core.Path.{refl, sym, ap, ◌∙◌}
use lib.ListN.{take}
use Rattle.std.proofs.Common.{length-append}
use Rattle.buffers.specs.Over.{over_at}
use Rattle.buffers.proofs.Overlays.{over_more}
use Rattle.request_writer.specs.Writing.{parts_joined}
use Rattle.request_writer.proofs.Parts.{part_at, parts_more, parts_room}
use Rattle.request_writer.proofs.FrameParts.{over_none}
use Rattle.request_writer.proofs.frames.put_parts.Goals as goal

pub loop-part-init : goal.loop-part-init
loop-part-init c = (refl, sym (over_none c.args.out.now))

pub put_bytes-requires : goal.put_bytes-requires
put_bytes-requires c = omega (arith, parts_room c.args.parts.now c.loop-part.part-index c.loop-part-test.true)

pub overflow_add-at : goal.overflow_add-at
overflow_add-at c = omega (arith, parts_room c.args.parts.now c.loop-part.part-index c.loop-part-test.true)

pub loop-part-preserved : goal.loop-part-preserved
loop-part-preserved c =
    let parts = c.args.parts.now in
    let i = c.loop-part.part-index in
    let room = parts_room parts i c.loop-part-test.true in
    rw (parts_more parts i c.loop-part-test.true) (
      rw length-append (omega arith),
      c.put_bytes.ensures ∙ ap (over_at c.loop-part.at (part_at parts i)) c.loop-part.invariant.1
          ∙ over_more (parts_joined (take i parts)) (part_at parts i) c.args.out.now 4 c.loop-part.at c.loop-part.invariant.0 (omega arith),
    )
