-- `request_writer::frames::size_of`: the parts counted so far. Assumes nothing.
use Rattle.std.proofs.Common.{◌≡◌, length, take}
use Rattle.request_writer.specs.Writing.{parts_joined}
use Rattle.request_writer.proofs.frames.size_of.Given as goal

abbrev pub invariant-loop-part : goal.invariant-loop-part
invariant-loop-part l = l.size ≡ length (parts_joined (take l.part-index l.parts))
