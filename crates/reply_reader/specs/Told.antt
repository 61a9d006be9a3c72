-- What the reply reader tells (PROFILE 6.3), and what that means in the profile's terms.
use Rattle.std.specs.Prelude.{ℕ, ◌+◌, ◌-◌, ◌*◌, ◌/◌, ◌≡◌, [], ◌∷◌, ◌&&◌, not, length, drop, get_or, replicate, eqb, if◌then◌else◌, Result, Ok, Err}
use Rattle.std.proofs.Math.Option.{Option, none, some}
use Rattle.codes.specs.Codes.{kind_code, refusal_meant}
use Rattle.codes.specs.declared.kind.Kind.TheVariants as coded
use Rattle.codes.specs.declared.refusal.Refusal.{Refusal}
use Rattle.codes.specs.declared.refusal.Refusal.TheVariants.{FieldIntegrityVerificationFailed, ParameterFailed, RequestNotSupported, HandleNotFound, DuplicateHandle, UnexpectedRequest, NotEnoughSpace, CountRaised}
use Rattle.codes.specs.declared.fault.Fault.{Fault}
use Rattle.codes.specs.declared.fault.Fault.TheVariants.{NoReply}
use Rattle.profile.specs.Bytes.{Bytes, byte, part, word, pieces}
use Rattle.profile.specs.Sizes.{handle_size, key_size, hash_size, not_a_reply}
use Rattle.profile.specs.Slot.{Count, count_with, right_with}
use Rattle.profile.specs.Frame.{Kind, setup_kind, install_kind, retrieve_kind, rek_kind, enable_kind, remove_kind, cancel_kind, list_kind, info_kind, kind_of, code, is_frame, version_holds, kind_number, body, kept_in, status_in}
use Rattle.profile.specs.Agent.{nothing, the_right, the_key, handles, counted}
use Rattle.profile.specs.Device.{none?, bit_allowed, shaped, Reply, malformed, failed, gave, read_reply}
use Rattle.reply_reader.specs.declared.answer.Answer.{Answer}
use Rattle.reply_reader.specs.declared.answer.Answer.TheVariants.{Failed, Nothing, Right, Key, Handles, Counted}
use Rattle.reply_reader.specs.declared.answer.Told.{Told}

-- ---- what each case of an answer means
-- of a frame f: a status, or what was given, read at the offsets told
abbrev pub meant : Bytes → Bytes → Answer → Reply
meant f key (Failed kind refusal) = failed kind (code (refusal_meant refusal))
meant f key (Nothing kind) = gave (kind_code kind) nothing
meant f key (Right count n hashes at size) = gave 3 (the_right (right_with key count (pieces hash_size n (drop hashes f)) (part at size f)))
meant f key Key = gave 4 (the_key key)
meant f key (Handles more n at) = gave 8 (handles more (pieces handle_size n (drop at f)))
meant f key (Counted count at size) = gave 9 (counted count (part at size f))

-- a reply that is refused is malformed
abbrev pub meaning : Bytes → Result Told Fault → Reply
meaning f (Ok t) = meant f t.key t.answer
meaning f (Err e) = malformed

-- the number of a reply: 203 where it is refused
abbrev pub refusal : Reply → ℕ
refusal malformed = not_a_reply
refusal (failed kind status) = 0
refusal (gave kind g) = 0

-- ---- what is told of a frame
unfoldable pub keyless : Answer → Told
keyless a = record { answer = a; key = replicate key_size 0 }

-- a reply that is refused has the number 203
abbrev pub unread : Result Told Fault
unread = Err NoReply

-- the count whose number stands at an offset of the frame; its bit is in the second byte
abbrev pub count_from : ℕ → Bytes → Count
count_from at f = count_with (kept_in f) (word at f)

-- kind 3, by offsets: the key from 4, the count from 20, the hash count in 22, the hashes from 23, the payload after them
abbrev pub hashes_in : Bytes → ℕ
hashes_in f = byte 22 f / 16

abbrev pub payload_from : Bytes → ℕ
payload_from f = 23 + hash_size * hashes_in f

unfoldable pub right_in : Bytes → Told
right_in f = record { answer = Right (count_from 20 f) (hashes_in f) 23 (payload_from f) (length f - payload_from f); key = part 4 key_size f }

-- kind 4: the key from 4
unfoldable pub key_in : Bytes → Told
key_in f = record { answer = Key; key = part 4 key_size f }

-- kind 8: "more" in 4, the handles from 5
unfoldable pub list_in : Bytes → Told
list_in f = keyless (Handles (eqb (byte 4 f / 128) 1) ((length f - 5) / handle_size) 5)

-- kind 9: the count from 4, the payload from 6
unfoldable pub info_in : Bytes → Told
info_in f = keyless (Counted (count_from 4 f) 6 (length f - 6))

abbrev pub told_shaped : Kind → Bytes → Told
told_shaped setup_kind f = keyless (Nothing coded.Setup)
told_shaped install_kind f = keyless (Nothing coded.Install)
told_shaped retrieve_kind f = right_in f
told_shaped rek_kind f = key_in f
told_shaped enable_kind f = keyless (Nothing coded.Enable)
told_shaped remove_kind f = keyless (Nothing coded.Remove)
told_shaped cancel_kind f = keyless (Nothing coded.Cancel)
told_shaped list_kind f = list_in f
told_shaped info_kind f = info_in f

-- a success of kind k, whose body must be of the kind's shape
abbrev pub told_of : Kind → Bytes → Result Told Fault
told_of k f = if shaped k f then Ok (told_shaped k f) else unread

-- a success of a kind that is none of the nine is malformed
abbrev pub told_success : Option Kind → Bytes → Result Told Fault
told_success none f = unread
told_success (some k) f = told_of k f

-- a success of a kind without a body, and every other status
abbrev pub told_empty : Answer → Bytes → Result Told Fault
told_empty a f = if none? (body f) then Ok (keyless a) else unread

-- the refusal of a status (PROFILE 4.2); 0, 8 and the numbers over 9 have none
abbrev pub refusal_of : ℕ → Option Refusal
refusal_of s =
    get_or
    (none ∷ some FieldIntegrityVerificationFailed ∷ some ParameterFailed ∷ some RequestNotSupported ∷ some HandleNotFound ∷ some DuplicateHandle ∷ some UnexpectedRequest ∷ some NotEnoughSpace ∷ none ∷ some CountRaised ∷ [])
    s
    none

-- a status that is none of the profile's is malformed
abbrev pub told_failed : ℕ → Option Refusal → Bytes → Result Told Fault
told_failed kind none f = unread
told_failed kind (some r) f = told_empty (Failed kind r) f

unfoldable pub told : Bytes → Result Told Fault
told f =
    if not (is_frame f && version_holds f) then unread
    else if not (bit_allowed f) then unread
    else if eqb (status_in f) 0 then told_success (kind_of (kind_number f)) f
    else told_failed (kind_number f) (refusal_of (status_in f)) f

-- what the reader gives of a frame: exactly this value, which means what the profile says
pub record Reads (f : Bytes) (t : Result Told Fault) : Type 0 where
  pub exact : t ≡ told f
  pub means : meaning f t ≡ read_reply f
