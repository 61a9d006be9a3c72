-- `request_writer::writer::write_kind` meets its contract, kind by kind. Assumes nothing.
use mathlib.Core.Logic.{inl, inr}
use Rattle.std.proofs.lemmas.List.{append-nil}
use Rattle.profile.specs.Request.{write_request}
use Rattle.profile.specs.Device.{kind_holds}
use Rattle.codes.specs.Codes.{kind_meant}
use Rattle.request_fields.specs.Given.{fields_of}
use Rattle.request_writer.proofs.AllowedFrames.{hashes_joined, hashes_length}
use Rattle.request_writer.proofs.writer.write_kind.Goals as goal

pub returns-in-Setup : goal.returns-in-Setup
unfolding write_request
returns-in-Setup c = rw c.in-Setup.is (rw (c.in-Setup.is, append-nil, c.bytes_of-room.ensures) at c.write_frame.ensures)

pub returns-in-Install : goal.returns-in-Install
unfolding write_request
returns-in-Install c =
    let hashes = c.args.f.now.hashes.now in
    let holds = kind_holds (kind_meant c.args.kind) (fields_of c.args.f.now) in
    rw (c.in-Install.is, hashes_joined hashes holds c.requires, hashes_length hashes holds c.requires)
    (rw (c.in-Install.is, append-nil, c.counted-three.ensures, c.hash_count_byte.ensures, c.number_of-number.ensures, c.count_with-count.ensures) at c.write_frame-in-Install.ensures)

pub returns-in-Retrieve : goal.returns-in-Retrieve
unfolding write_request
returns-in-Retrieve c = elim c.in-Retrieve.is [
  | inl e ↦ rw e (rw (e, append-nil) at c.write_frame-in-Retrieve.ensures)
  | inr e ↦ rw e (rw (e, append-nil) at c.write_frame-in-Retrieve.ensures)
]

pub returns-in-Enable : goal.returns-in-Enable
unfolding write_request
returns-in-Enable c = rw c.in-Enable.is (rw (c.in-Enable.is, append-nil, c.bytes_of-bytes.ensures, c.number_of-number.ensures, c.count_with-count.ensures) at c.write_frame-in-Enable.ensures)

pub returns-in-Remove : goal.returns-in-Remove
unfolding write_request
returns-in-Remove c = elim c.in-Remove.is [
  | inl e ↦ rw e (rw (e, append-nil) at c.write_frame-in-Remove.ensures)
  | inr (inl e) ↦ rw e (rw (e, append-nil) at c.write_frame-in-Remove.ensures)
  | inr (inr e) ↦ rw e (rw (e, append-nil) at c.write_frame-in-Remove.ensures)
]

pub returns-in-List : goal.returns-in-List
unfolding write_request
returns-in-List c =
    let hashes = c.args.f.now.hashes.now in
    let holds = kind_holds (kind_meant c.args.kind) (fields_of c.args.f.now) in
    rw (c.in-List.is, hashes_joined hashes holds c.requires, hashes_length hashes holds c.requires)
    (rw (c.in-List.is, append-nil, c.counted-listed.ensures) at c.write_frame-in-List.ensures)
