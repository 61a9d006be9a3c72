-- What a caller of the reader knows in each case of the answer. Assumes nothing.
use Prim.Native.Nat.{ℕ}
use mathlib.Core.Path.{◌≡◌, sym, ap, ◌∙◌}
use Rattle.std.specs.Prelude.{Ok, Err}
use Rattle.profile.specs.Bytes.{Bytes}
use Rattle.profile.specs.Request.{asks, read_request}
use Rattle.request_reader.specs.declared.asked.Why.{Why}
use Rattle.request_reader.specs.declared.asked.Body.{Body}
use Rattle.request_reader.specs.declared.asked.Body.TheVariants.{Install, List}
use Rattle.request_reader.specs.declared.asked.Asked.{Asked}
use Rattle.request_reader.specs.Answer.{why_means, body_means, meaning, InstallEnds, ListEnds, Answers}

-- a refusal, and a request
pub says_no : (f : Bytes) (w : Why) → Answers f (Err w) → read_request f ≡ why_means w
unfolding meaning
says_no f w a = sym a.means

module _ (f : Bytes) (r : Asked) (a : Answers f (Ok r)) where
  pub says_yes : (b : Body) → r.body ≡ b → read_request f ≡ asks (body_means f b r)
  unfolding meaning
  says_yes b e = sym a.means ∙ ap (λ (y : Body). asks (body_means f y r)) e

  -- kinds 2 and 8: where the fields that stand in the frame end
  pub install_within : (n at len : ℕ) → r.body ≡ Install n at len → InstallEnds f n at len
  install_within n at len e = rw e at a.ends

  pub list_within : (limit n at : ℕ) → r.body ≡ List limit n at → ListEnds f n at
  list_within limit n at e = rw e at a.ends
