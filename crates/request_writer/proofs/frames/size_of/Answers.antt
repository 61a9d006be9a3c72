-- `request_writer::frames::size_of` meets its contract, part by part. Assumes nothing.
use native.Mathlib.Omega.{arith}
use Rattle.std.proofs.Common.{length-append}
use Rattle.request_writer.proofs.Parts.{parts_more, parts_room}
use Rattle.request_writer.proofs.frames.size_of.Goals as goal

pub overflow_add-size : goal.overflow_add-size
overflow_add-size c = omega (arith, parts_room c.args.parts.now c.loop-part.part-index c.loop-part-test.true)

pub loop-part-preserved : goal.loop-part-preserved
loop-part-preserved c = rw (parts_more c.args.parts.now c.loop-part.part-index c.loop-part-test.true, length-append) (omega arith)
