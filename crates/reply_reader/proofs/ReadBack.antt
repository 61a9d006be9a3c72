-- Whatever the agent replies is accepted by the reader, and gives the fields sent. Assumes nothing.
use mathlib.Core.Path.{◌≡◌, refl, ap, ◌∙◌}
use mathlib.Core.Bool.{true}
use lib.Dec.{eqb}
use lib.ListN.{length, take, drop}
use lib.Seq.{take_at}
use Rattle.profile.specs.Bytes.{Bytes, over}
use Rattle.profile.specs.Frame.{kind_number}
use Rattle.profile.specs.Agent.{Answer, reply_frame, Call, Outcome, replied, agent}
use Rattle.profile.specs.Device.{sent}
use Rattle.profile.specs.Theorems.{Readable}
use Rattle.profile.proofs.Replies.{replies_read}
use Rattle.reply_reader.specs.Told.{meaning, told}
use Rattle.reply_reader.proofs.Meanings.{told_means}

-- the outcome is that of an answer; the answer's frame stands at the start of the reply; and what the reader tells of it is the answer
pub record Accepted (table : Bytes) (c : Call) (o : Outcome) : Type 0 where
  pub answer : Answer
  pub replies : o ≡ replied (kind_number c.request) answer table c.buffer
  pub stands : take (length (reply_frame (kind_number c.request) answer)) o.reply ≡ reply_frame (kind_number c.request) answer
  pub read : meaning (reply_frame (kind_number c.request) answer) (told (reply_frame (kind_number c.request) answer)) ≡ sent (kind_number c.request) answer

over_first : (f b : Bytes) → take (length f) (over f b) ≡ f
unfolding over
over_first f b = take_at f (drop (length f) b) (length f) refl

pub replies_accepted : (table : Bytes) (c : Call) → eqb (agent table c).number 0 ≡ true → Accepted table c (agent table c)
replies_accepted table c z =
    let r : Readable table c (agent table c) = replies_read table c z in
    let f : Bytes = reply_frame (kind_number c.request) r.answer in
    record {
      answer = r.answer;
      replies = r.replies;
      stands = ap (λ (o : Outcome). take (length f) o.reply) r.replies ∙ over_first f c.buffer;
      read = told_means f ∙ r.read;
    }
