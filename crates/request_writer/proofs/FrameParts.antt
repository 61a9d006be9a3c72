-- A frame in a buffer: the buffer is too short for it, or it stands at the buffer's start. Assumes nothing.
use Prim.Native.Nat.{ℕ, ◌+◌, ◌*◌, ◌≤◌, ◌<◌}
use mathlib.Core.Path.{◌≡◌, refl, ap, ◌∙◌}
use mathlib.Core.List.{[]}
use native.Mathlib.Omega.{arith}
use lib.ListN.{length}
use borrow.Author.Tests.{lt-ltb, le-ltb}
use Rattle.std.proofs.lemmas.List.{append-nil, take-append-drop}
use Rattle.buffers.specs.Over.{over_at}
use Rattle.buffers.proofs.Overlays.{over_start, over_more}
use Rattle.profile.specs.Bytes.{Bytes}
use Rattle.profile.specs.Sizes.{writer_buffer_short}
use Rattle.profile.specs.Frame.{frame}
use Rattle.profile.specs.Device.{put}
use Rattle.request_writer.specs.Writing.{wrote, started}

-- no part is put yet
pub over_none : (d : Bytes) → over_at 4 [] d ≡ d
unfolding over_at
over_none d = rw append-nil (take-append-drop 4 d)

-- k is the kind, t the bit of the count, b the body
module _ (k t : ℕ) (b d : Bytes) where
  pub frame_short : length d < 4 + length b → wrote writer_buffer_short d ≡ put (frame k (128 + 64 * t) b) d
  unfolding frame
  frame_short h = rw (lt-ltb (length d) (length (frame k (128 + 64 * t) b)) (omega arith))

  pub frame_whole : {head y₁ y₂ : Bytes} → 4 + length b ≤ length d → head ≡ started k t (length b) [] → y₁ ≡ over_at 0 head d → y₂ ≡ over_at 4 b y₁ → wrote 0 y₂ ≡ put (frame k (128 + 64 * t) b) d
  unfolding frame
  frame_whole h eh e₁ e₂ =
      rw (le-ltb (length d) (length (frame k (128 + 64 * t) b)) (omega arith))
      (ap (wrote 0) (e₂ ∙ ap (over_at 4 b) (e₁ ∙ ap (λ (s : Bytes). over_at 0 s d) eh) ∙ over_more (started k t (length b) []) b d 0 4 refl h ∙ over_start (started k t (length b) b) d))
