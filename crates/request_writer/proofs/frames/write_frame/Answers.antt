-- `request_writer::frames::write_frame` meets its contract: 201, or the head and the parts. Assumes nothing.
use native.Mathlib.Omega.{arith}
use mathlib.Core.Path.{ap, ◌∙◌}
use mathlib.Core.List.{[]}
use Prim.Native.Nat.{ℕ}
use Rattle.codes.specs.Codes.{kind_code}
use Rattle.profile.specs.Slot.{kept_bit}
use Rattle.std.proofs.lemmas.Result.{err_from_is_err_and}
use Rattle.request_writer.specs.Writing.{parts_joined, started}
use Rattle.request_writer.proofs.FrameParts.{frame_short, frame_whole}
use Rattle.request_writer.proofs.frames.write_frame.Goals as goal

pub returns-in_err-room : goal.returns-in_err-room
returns-in_err-room c =
    let p = err_from_is_err_and c.from_residual.result c.from_residual.ensures.1 in
    let said = c.in_err-room.ensures in
    rw (p.1, p.2, said.0) (frame_short (kind_code c.args.kind) (kept_bit c.args.count) (parts_joined c.args.parts.now) c.args.out.now (omega (arith, said.1, c.size_of-size.ensures)))

pub returns : goal.returns
returns c =
    frame_whole (kind_code c.args.kind) (kept_bit c.args.count) (parts_joined c.args.parts.now) c.args.out.now (omega (arith, c.in_ok-room.ensures, c.size_of-size.ensures))
    (c.request_head-head.ensures ∙ ap (λ (n : ℕ). started (kind_code c.args.kind) (kept_bit c.args.count) n []) c.size_of-size.ensures) c.put_bytes.ensures c.put_parts.ensures
