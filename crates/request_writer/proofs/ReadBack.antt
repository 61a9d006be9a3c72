-- A written request reads back to its fields (PROFILE 6.4), of the code: what the writer leaves in the buffer with the number 0, and the
-- reader's answer to it. Assumes nothing.
use Prim.Native.Nat.{ℕ, ◌≤◌}
use mathlib.Core.Path.{◌≡◌, refl, sym, ap, ◌∙◌}
use mathlib.Core.Option.{some}
use lib.Dec.{eqb}
use lib.ListN.{length, take, drop}
use lib.Seq.{take_at, drop_at}
use Rattle.profile.specs.Bytes.{Bytes, over}
use Rattle.profile.specs.Frame.{Kind, kind_of}
use Rattle.profile.specs.Request.{asks, read_request, write_request}
use Rattle.profile.specs.Device.{Fields, request_of, Arrays, Written, write}
use Rattle.profile.specs.Theorems.{ReadsBack}
use Rattle.profile.proofs.Writer.{written_reads}
use Rattle.std.specs.Prelude.{Result}
use Rattle.request_reader.specs.declared.asked.Why.{Why}
use Rattle.std.specs.Prelude.{Result}
use Rattle.request_reader.specs.declared.asked.Why.{Why}
use Rattle.request_reader.specs.declared.asked.Asked.{Asked}
use Rattle.request_reader.specs.Answer.{meaning, Answers}
use Rattle.request_writer.specs.Writing.{wrote}

-- the first `size` bytes of the buffer y read back to the fields f, and the others are those of d
pub record Back (kind : ℕ) (f : Fields) (d y : Bytes) : Type 0 where
  pub of_kind : Kind
  pub number : kind_of kind ≡ some of_kind
  pub size : ℕ
  pub short : size ≤ length d
  pub frame : take size y ≡ write_request (request_of of_kind f)
  pub read : read_request (take size y) ≡ asks (request_of of_kind f)
  pub others : drop size y ≡ drop size d

pub reads_back : (kind : ℕ) (f : Fields) (d y : Bytes) → Arrays f → wrote 0 y ≡ write kind f d → Back kind f d y
unfolding over
reads_back kind f d y a e =
    record {
      of_kind = b.of_kind;
      number = b.number;
      size = length w;
      short = b.short;
      frame = first;
      read = ap read_request first ∙ b.read;
      others = ap (drop (length w)) is ∙ drop_at w (drop (length w) d) (length w) refl;
    }
  where
    b : ReadsBack kind f d (write kind f d)
    b = written_reads kind f d a (ap (λ (o : Written). eqb o.number 0) (sym e))

    w : Bytes
    w = write_request (request_of b.of_kind f)

    is : y ≡ over w d
    is = ap (λ (o : Written). o.buffer) e ∙ b.starts

    first : take (length w) y ≡ w
    first = ap (take (length w)) is ∙ take_at w (drop (length w) d) (length w) refl

-- so the reader's answer to those bytes means the fields
pub answer_back : (kind : ℕ) (f : Fields) (d y : Bytes) (b : Back kind f d y) (r : Result Asked Why) → Answers (take b.size y) r → meaning (take b.size y) r ≡ asks (request_of b.of_kind f)
answer_back kind f d y b r a = a.means ∙ b.read
