-- What the request reader's answer means in the card profile, for each case of its enum; and what it promises of every frame.
use Rattle.std.specs.Prelude.{ℕ, ◌+◌, ◌*◌, ◌≤◌, ◌≡◌, length, drop, Result, Ok, Err, IfOk}
use Rattle.profile.specs.Bytes.{Bytes, part, pieces}
use Rattle.profile.specs.Sizes.{most_payload, handle_size, key_size, hash_size, most_hashes}
use Rattle.profile.specs.Slot.{Count, Right, right_with}
use Rattle.profile.specs.Frame.{integrity, parameter, unsupported}
use Rattle.profile.specs.Request.{Request, setup, install, retrieve, rek, enable, remove, cancel, list, info, Read, asks, refused, no_frame, read_request}
use Rattle.request_reader.specs.declared.asked.Why.{Why}
use Rattle.request_reader.specs.declared.asked.Why.TheVariants.{NoFrame, Integrity, Parameter, Unsupported}
use Rattle.request_reader.specs.declared.asked.Body.{Body}
use Rattle.request_reader.specs.declared.asked.Body.TheVariants.{Setup, Install, Retrieve, Rek, Enable, Remove, Cancel, List, Info}
use Rattle.request_reader.specs.declared.asked.Asked.{Asked}
use Rattle.request_reader.specs.Asking.{asked}

-- ---- the number 104, or the status
abbrev pub why_means : Why → Read
why_means NoFrame = no_frame
why_means Integrity = refused integrity
why_means Parameter = refused parameter
why_means Unsupported = refused unsupported

-- ---- the fields: n hashes stand in the frame from an offset on, and the payload follows them
abbrev pub hashes_in : Bytes → ℕ → ℕ → mathlib.Core.List.List Bytes
hashes_in f n at = pieces hash_size n (drop at f)

abbrev pub right_in : Bytes → Bytes → Count → ℕ → ℕ → ℕ → Right
right_in f key c n at len = right_with key c (hashes_in f n at) (part (at + hash_size * n) len f)

abbrev pub body_means : Bytes → Body → Asked → Request
body_means f (Setup n) r = setup r.handle n
body_means f (Install n at len) r = install r.handle (right_in f r.key r.count n at len)
body_means f Retrieve r = retrieve r.handle r.new
body_means f Rek r = rek r.handle r.new
body_means f Enable r = enable r.handle r.count
body_means f Remove r = remove r.handle
body_means f Cancel r = cancel r.handle
body_means f (List limit n at) r = list limit (hashes_in f n at)
body_means f Info r = info r.handle

unfoldable pub meaning : Bytes → Result Asked Why → Read
meaning f (Ok r) = asks (body_means f r.body r)
meaning f (Err w) = why_means w

-- ---- where the hashes and the payload end
pub record InstallEnds (f : Bytes) (n at len : ℕ) : Type 0 where
  pub few : n ≤ most_hashes
  pub least : 1 ≤ len
  pub most : len ≤ most_payload
  pub ends : at + hash_size * n + len ≡ length f

pub record ListEnds (f : Bytes) (n at : ℕ) : Type 0 where
  pub few : n ≤ most_hashes
  pub ends : at + hash_size * n ≡ length f

abbrev pub BodyEnds : Bytes → Body → Type 0
BodyEnds f (Setup n) = Unit {0}
BodyEnds f (Install n at len) = InstallEnds f n at len
BodyEnds f Retrieve = Unit {0}
BodyEnds f Rek = Unit {0}
BodyEnds f Enable = Unit {0}
BodyEnds f Remove = Unit {0}
BodyEnds f Cancel = Unit {0}
BodyEnds f (List limit n at) = ListEnds f n at
BodyEnds f Info = Unit {0}

-- ---- the lengths of the arrays, the zero ones too
pub record Sizes (r : Asked) : Type 0 where
  pub handle_10 : length r.handle ≡ handle_size
  pub new_10 : length r.new ≡ handle_size
  pub key_16 : length r.key ≡ key_size

-- ---- the promise: the answer is exactly this one, means what the profile reads, and the offsets of a request lie in the frame
pub record Answers (f : Bytes) (r : Result Asked Why) : Type 0 where
  pub exact : r ≡ asked f
  pub means : meaning f r ≡ read_request f
  pub ends : IfOk r (λ a. BodyEnds f a.body)
  pub sizes : IfOk r Sizes
