-- A reply as C has it: a key, and eleven numbers.
use Rattle.std.specs.Prelude.{ℕ, ◌<◌, ◌≡◌, List, [], ◌∷◌, Bool, cond, Result, Ok, Err}
use Rattle.codes.specs.Codes.{kind_code, refusal_meant, fault_number}
use Rattle.codes.specs.declared.fault.Fault.{Fault}
use Rattle.profile.specs.Bytes.{Bytes}
use Rattle.profile.specs.Slot.{Count, kept_bit, count_number}
use Rattle.profile.specs.Frame.{code}
use Rattle.profile.specs.Device.{read_reply}
use Rattle.reply_reader.specs.declared.answer.Answer.{Answer}
use Rattle.reply_reader.specs.declared.answer.Answer.TheVariants.{Failed, Nothing, Right, Key, Handles, Counted}
use Rattle.reply_reader.specs.declared.answer.Told.{Told}
use Rattle.reply_reader.specs.Told.{meaning, told}

-- ---- the numbers: kind, status, the count's number, number of hashes, offset of the hashes, offset of the payload, payload length, more, number of
-- handles, offset of the handles, whether a count is kept; what a reply lacks is 0
abbrev pub of_status : ℕ → ℕ → List ℕ
of_status kind status = kind ∷ status ∷ 0 ∷ 0 ∷ 0 ∷ 0 ∷ 0 ∷ 0 ∷ 0 ∷ 0 ∷ 0 ∷ []

abbrev pub of_right : Count → ℕ → ℕ → ℕ → ℕ → List ℕ
of_right count n hashes at size = 3 ∷ 0 ∷ count_number count ∷ n ∷ hashes ∷ at ∷ size ∷ 0 ∷ 0 ∷ 0 ∷ kept_bit count ∷ []

abbrev pub of_handles : Bool → ℕ → ℕ → List ℕ
of_handles more n at = 8 ∷ 0 ∷ 0 ∷ 0 ∷ 0 ∷ 0 ∷ 0 ∷ cond more 1 0 ∷ n ∷ at ∷ 0 ∷ []

abbrev pub of_counted : Count → ℕ → ℕ → List ℕ
of_counted count at size = 9 ∷ 0 ∷ count_number count ∷ 0 ∷ 0 ∷ at ∷ size ∷ 0 ∷ 0 ∷ 0 ∷ kept_bit count ∷ []

abbrev pub numbers : Answer → List ℕ
numbers (Failed kind refusal) = of_status kind (code (refusal_meant refusal))
numbers (Nothing kind) = of_status (kind_code kind) 0
numbers (Right count n hashes at size) = of_right count n hashes at size
numbers Key = of_status 4 0
numbers (Handles more n at) = of_handles more n at
numbers (Counted count at size) = of_counted count at size

-- each has 16 bits
abbrev pub Small : Answer → Type 0
Small (Failed kind refusal) = Unit {0}
Small (Nothing kind) = Unit {0}
Small (Right count n hashes at size) = (n < 65536) × (hashes < 65536) × (at < 65536) × (size < 65536)
Small Key = Unit {0}
Small (Handles more n at) = (n < 65536) × (at < 65536)
Small (Counted count at size) = (at < 65536) × (size < 65536)

-- ---- the number, and the key and the numbers afterwards
pub record Left : Type 0 where
  pub number : ℕ
  pub key : Bytes
  pub fields : List ℕ

abbrev pub left : ℕ → Bytes → List ℕ → Left
left n key fields = record { number = n; key = key; fields = fields }

-- a reply that is refused leaves the key and the numbers as they were
abbrev pub leaves : Bytes → List ℕ → Result Told Fault → Left
leaves key fields (Ok t) = left 0 t.key (numbers t.answer)
leaves key fields (Err e) = left (fault_number e) key fields

-- what is told of the frame is left, and means what the profile says
pub record ReadsInto (f key : Bytes) (fields : List ℕ) (l : Left) : Type 0 where
  pub exact : l ≡ leaves key fields (told f)
  pub means : meaning f (told f) ≡ read_reply f
