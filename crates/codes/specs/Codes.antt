-- The enums of this crate in the words of the profile.
use Rattle.std.specs.Prelude.{ℕ, ◌≡◌, true, Bool, ◌||◌, not, eqb, Result, Ok, Err, MatchResult}
use Rattle.std.proofs.Math.Option.{Option, none, some}
use Rattle.profile.specs.Sizes.{reply_buffer_short, table_length, table_not_well_formed, not_a_frame, start_outside, tally_differs, report_buffer_short, total_outside, writer_buffer_short, writer_fields, not_a_reply}
use Rattle.profile.specs.Frame as frame
use Rattle.profile.specs.Salvage as salvage
use Rattle.codes.specs.declared.kind.Kind.{Kind}
use Rattle.codes.specs.declared.kind.Kind.TheVariants.{Setup, Install, Retrieve, Rek, Enable, Remove, Cancel, List, Info}
use Rattle.codes.specs.declared.kind.UnknownKind.{UnknownKind}
use Rattle.codes.specs.declared.refusal.Refusal.{Refusal}
use Rattle.codes.specs.declared.refusal.Refusal.TheVariants.{FieldIntegrityVerificationFailed, ParameterFailed, RequestNotSupported, HandleNotFound, DuplicateHandle, UnexpectedRequest, NotEnoughSpace, CountRaised}
use Rattle.codes.specs.declared.refusal.NoRefusal.{NoRefusal}
use Rattle.codes.specs.declared.fault.Fault.{Fault}
use Rattle.codes.specs.declared.fault.Fault.TheVariants.{ReplyBufferShort, TableLength, TableNotWellFormed, NoFrame, StartOutside, TallyDiffers, ReportBufferShort, TotalOutside, WriterBufferShort, WriterFields, NoReply}
use Rattle.codes.specs.declared.finding.Finding.{Finding}
use Rattle.codes.specs.declared.finding.Finding.TheVariants.{Kept, Damaged, Repeated}

-- ---- PROFILE 3.3: kinds
abbrev pub kind_meant : Kind → frame.Kind
kind_meant Setup = frame.setup_kind
kind_meant Install = frame.install_kind
kind_meant Retrieve = frame.retrieve_kind
kind_meant Rek = frame.rek_kind
kind_meant Enable = frame.enable_kind
kind_meant Remove = frame.remove_kind
kind_meant Cancel = frame.cancel_kind
kind_meant List = frame.list_kind
kind_meant Info = frame.info_kind

-- the number of a kind
abbrev pub kind_code : Kind → ℕ
kind_code Setup = 1
kind_code Install = 2
kind_code Retrieve = 3
kind_code Rek = 4
kind_code Enable = 5
kind_code Remove = 6
kind_code Cancel = 7
kind_code List = 8
kind_code Info = 9

-- of a number: its kind, or that it is none's
abbrev pub kind_told : Result Kind UnknownKind → Option frame.Kind
kind_told (Ok k) = some (kind_meant k)
kind_told (Err e) = none

-- ---- PROFILE 4.2: refusals, which are the statuses but 0
abbrev pub refusal_meant : Refusal → frame.Refusal
refusal_meant FieldIntegrityVerificationFailed = frame.integrity
refusal_meant ParameterFailed = frame.parameter
refusal_meant RequestNotSupported = frame.unsupported
refusal_meant HandleNotFound = frame.not_found
refusal_meant DuplicateHandle = frame.duplicate
refusal_meant UnexpectedRequest = frame.unexpected
refusal_meant NotEnoughSpace = frame.no_space
refusal_meant CountRaised = frame.count_raised

-- the status of a reply: 0 where the request is served
abbrev pub status_in : {A : Type 0} → Result A Refusal → ℕ
status_in (Ok a) = 0
status_in (Err r) = frame.code (refusal_meant r)

-- of a number: the refusal whose status it is, or that it is 0 or no status
abbrev pub RefusalTold : ℕ → Result Refusal NoRefusal → Type 0
RefusalTold n r = MatchResult r (λ k. frame.code (refusal_meant k) ≡ n) (λ e. (eqb n 0 || not (frame.is_status n)) ≡ true)

-- ---- PROFILE 4.1, 6.2 and 6.3: faults
abbrev pub fault_number : Fault → ℕ
fault_number ReplyBufferShort = reply_buffer_short
fault_number TableLength = table_length
fault_number TableNotWellFormed = table_not_well_formed
fault_number NoFrame = not_a_frame
fault_number StartOutside = start_outside
fault_number TallyDiffers = tally_differs
fault_number ReportBufferShort = report_buffer_short
fault_number TotalOutside = total_outside
fault_number WriterBufferShort = writer_buffer_short
fault_number WriterFields = writer_fields
fault_number NoReply = not_a_reply

-- the number that a function gives: 0 where it does not refuse
abbrev pub number_in : {A : Type 0} → Result A Fault → ℕ
number_in (Ok a) = 0
number_in (Err f) = fault_number f

-- what there is afterwards: what the function gives, or, where it refuses, what there was before
abbrev pub left_by : {A : Type 0} → A → Result A Fault → A
left_by was (Ok a) = a
left_by was (Err f) = was

-- ---- PROFILE 2.10: what is found of a slot
abbrev pub finding_meant : Finding → salvage.Finding
finding_meant Kept = salvage.kept
finding_meant Damaged = salvage.damaged
finding_meant Repeated = salvage.repeated
