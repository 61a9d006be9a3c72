-- `refusals::refuse` meets its contract: why a frame is no request fixes the number and the reply. Assumes nothing.
use mathlib.Core.Path.{refl}
use native.Mathlib.Omega.{arith}
use Rattle.refusals.proofs.Refused.{refusal_read, refused_long, refuses_with}
use Rattle.refusals.proofs.refuse.Goals as goal

pub bounds-frame-0 : goal.bounds-frame-0
bounds-frame-0 c = omega (arith, refused_long _ _ _ c.requires.0 (refusal_read _ _ c.in_ok-refusal.ensures))

pub returns : goal.returns
returns c = refuses_with _ _ _ _ _ _ (refusal_read _ _ c.in_ok-refusal.ensures) refl (rw c.frame_kind-kind.ensures at c.reply_served.ensures)
