-- `request_writer::frames::put_parts`: the parts put so far. Assumes nothing.
use Rattle.std.proofs.Common.{◌≡◌, ◌+◌, length, take}
use Rattle.buffers.specs.Over.{over_at}
use Rattle.request_writer.specs.Writing.{parts_joined}
use Rattle.request_writer.proofs.frames.put_parts.Given as goal

abbrev pub invariant-loop-part : goal.invariant-loop-part
invariant-loop-part l = (l.at ≡ 4 + length (parts_joined (take l.part-index l.parts))) × (l.out ≡ over_at 4 (parts_joined (take l.part-index l.parts)) l.initial.out)
