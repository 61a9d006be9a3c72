-- What is promised of a frame that is no request.
use Rattle.std.specs.Prelude.{ℕ, ◌≡◌, List, Result, Ok, Err}
use Rattle.profile.specs.Bytes.{Bytes}
use Rattle.profile.specs.Slot.{Slot}
use Rattle.profile.specs.Frame.{kind_number}
use Rattle.profile.specs.Tally.{tally_in}
use Rattle.profile.specs.Agent.{Call, obey, on_bytes}
use Rattle.codes.specs.declared.refusal.Refusal as refusal
use Rattle.codes.specs.declared.refusal.Refusal.TheVariants.{FieldIntegrityVerificationFailed, ParameterFailed, RequestNotSupported}
use Rattle.codes.specs.declared.fault.Fault as fault
use Rattle.codes.specs.declared.fault.Fault.TheVariants as faults
use Rattle.request_reader.specs.declared.asked.Why.{Why}
use Rattle.request_reader.specs.declared.asked.Why.TheVariants.{NoFrame, Integrity, Parameter, Unsupported}
use Rattle.request_reader.specs.Answer.{why_means}

-- PROFILE 4.1 and 4.3: bytes that are no frame have a number, a frame that is no request has a status
abbrev pub refusal_for : Why → Result refusal.Refusal fault.Fault
refusal_for NoFrame = Err faults.NoFrame
refusal_for Integrity = Ok FieldIntegrityVerificationFailed
refusal_for Parameter = Ok ParameterFailed
refusal_for Unsupported = Ok RequestNotSupported

-- a frame that is no request: the number and the reply are the profile's, on every table and with its tally, which stay as they are
pub record Refuses (f : Bytes) (w : Why) (buffer : Bytes) (n : ℕ) (buffer' : Bytes) : Type 0 where
  pub on_any : (free : ℕ) (t : List Slot) (table : Bytes) (c : Call) → c.buffer ≡ buffer → c.tally ≡ tally_in table
      → record { number = n; reply = buffer'; table = table; tally = c.tally } ≡ on_bytes (kind_number f) (obey (why_means w) free t) table c
