-- Why a frame is no request fixes the number and the reply. Assumes nothing.
use Prim.Native.Nat.{ℕ, ◌+◌, ◌≤◌}
use mathlib.Core.Path.{◌≡◌, sym, ap, ◌∙◌}
use mathlib.Core.List.{[]}
use mathlib.Core.Bool.{◌&&◌, not}
use lib.Dec.{leb, eqb}
use lib.ListN.{length}
use Rattle.std.specs.Prelude.{Ok, if◌then◌else◌}
use native.Mathlib.Omega.{arith}
use Rattle.profile.specs.Bytes.{Bytes, word, over}
use Rattle.profile.specs.Frame.{kind_number, frame, is_frame, version_holds, kind_of, Refusal, parameter, code}
use Rattle.profile.specs.Request.{Read, asks, refused, no_frame, zero_bits, read_kind, read_request}
use Rattle.profile.specs.Tally.{Tally}
use Rattle.profile.specs.Agent.{reply_frame, Outcome}
use Rattle.profile.proofs.Logic.{and_parts, leb_le, if_else, not_false}
use Rattle.request_reader.specs.declared.asked.Why.{Why}
use Rattle.codes.specs.declared.refusal.Refusal as codes
use Rattle.codes.specs.declared.refusal.Refusal.TheVariants.{FieldIntegrityVerificationFailed, ParameterFailed, RequestNotSupported}
use Rattle.codes.specs.Codes.{refusal_meant}
use Rattle.request_reader.specs.declared.asked.Why.TheVariants.{NoFrame, Integrity, Parameter, Unsupported}
use Rattle.request_reader.specs.Answer.{why_means}
use Rattle.refusals.specs.Refusing.{refusal_for, Refuses}

-- only a frame of four bytes or more has a status
abbrev LongWhereRefused : Bytes → Read → Type 0
LongWhereRefused f (asks q) = Unit {0}
LongWhereRefused f (refused x) = 4 ≤ length f
LongWhereRefused f no_frame = Unit {0}

long_any : (f : Bytes) → 4 ≤ length f → (r : Read) → LongWhereRefused f r
long_any f h (asks q) = tt
long_any f h (refused x) = h
long_any f h no_frame = tt

long_read : (f : Bytes) → LongWhereRefused f (read_request f)
unfolding read_request
long_read f =
    if_else (LongWhereRefused f) (not (is_frame f)) tt λ a.
    long_any f (leb_le 4 (length f) (and_parts (leb 4 (length f)) (eqb (length f) (4 + word 2 f)) (not_false (is_frame f) a)).0)
    (if not (version_holds f && zero_bits f) then refused parameter else read_kind (kind_of (kind_number f)) f)

-- a frame's reason is the profile's
pub refusal_read : (w : Why) (x : codes.Refusal) → Ok x ≡ refusal_for w → why_means w ≡ refused (refusal_meant x)
refusal_read NoFrame x q = absurd (let z : ◌≡◌ {A = ℕ} 0 1 = cc in omega arith)
refusal_read Integrity x q = ap (λ (y : codes.Refusal). refused (refusal_meant y)) (let e : FieldIntegrityVerificationFailed ≡ x = cc in e)
refusal_read Parameter x q = ap (λ (y : codes.Refusal). refused (refusal_meant y)) (let e : ParameterFailed ≡ x = cc in e)
refusal_read Unsupported x q = ap (λ (y : codes.Refusal). refused (refusal_meant y)) (let e : RequestNotSupported ≡ x = cc in e)

pub refused_long : (f : Bytes) (w : Why) (x : Refusal) → why_means w ≡ read_request f → why_means w ≡ refused x → 4 ≤ length f
refused_long f w x e d = rw (sym e ∙ d) at (long_read f)

pub refuses_with : (f buffer : Bytes) (w : Why) (x : Refusal) (n : ℕ) (buffer' : Bytes) → why_means w ≡ refused x → n ≡ 0
    → buffer' ≡ over (frame (kind_number f) (code x) []) buffer → Refuses f w buffer n buffer'
unfolding reply_frame
refuses_with f buffer w x n buffer' d z e = record { on_any = λ free t table c b y. rw (d, z, e, ← b) (ap {B = Outcome} (λ (i : Tally). record { number = 0; reply = over (frame (kind_number f) (code x) []) c.buffer; table = table; tally = i }) y) }
