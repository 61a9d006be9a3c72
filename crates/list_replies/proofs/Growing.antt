-- A list of handles that grows in a buffer, and the head that closes it. Assumes nothing.
use mathlib.Core.Path.{◌≡◌, refl, ap, ◌∙◌}
use mathlib.Core.List.{List, [], ◌∷◌, ◌++◌, append_assoc, append-nil}
use mathlib.Core.Bool.{Bool}
use Prim.Native.Nat.{ℕ, suc, ◌+◌, ◌*◌, ◌≤◌}
use native.Mathlib.Omega.{arith}
use lib.ListN.{length, take, drop, length-append, take-append-drop}
use lib.Seq.{drop_at, length-take-le}
use Rattle.std.specs.Prelude.{if◌then◌else◌}
use Rattle.profile.specs.Bytes.{Bytes, over, joined, Each}
use Rattle.profile.specs.Sizes.{handle_size}
use Rattle.profile.specs.Frame.{frame}
use Rattle.profile.specs.Slot.{Slot}
use Rattle.profile.specs.Agent.{handles, done, reply_frame}
use Rattle.profile.proofs.Strings.{length_each}
use Rattle.buffers.specs.Over.{over_at}
use Rattle.buffers.proofs.Overlays.{over_start, over_more}
use Rattle.reply_writer.specs.Written.{head_of}
use Rattle.list_replies.specs.Listed.{holding, list_start}

-- ---- one handle more
pub joined_snoc : (hs : List Bytes) (h : Bytes) → joined (hs ++ (h ∷ [])) ≡ joined hs ++ h
joined_snoc [] h = append-nil h
joined_snoc (x ∷ hs) h = rw (joined_snoc hs h, append_assoc x (joined hs) h)

pub hold_none : (b : Bytes) → holding [] b ≡ b
unfolding holding over_at
hold_none b = rw (append-nil (take 5 b)) (take-append-drop 5 b)

module _ (hs : List Bytes) (n : ℕ) (b : Bytes) (each : Each handle_size hs) (count : length hs ≡ n) (fits : 5 + handle_size * n ≤ length b) where
  size : length (joined hs) ≡ handle_size * n
  size = length_each handle_size hs each ∙ ap (λ (k : ℕ). handle_size * k) count

  -- after `put_handle`
  pub hold_more : {d d' : Bytes} (h : Bytes) → length h ≡ handle_size → 5 + handle_size + handle_size * n ≤ length b → d ≡ holding hs b
      → d' ≡ over_at (5 + handle_size * n) h d → d' ≡ holding (hs ++ (h ∷ [])) b
  unfolding holding
  hold_more h e f p q =
      let s = size in
      q ∙ rw p (over_more (joined hs) h b 5 (5 + handle_size * n) (omega arith) (omega arith) ∙ rw (joined_snoc hs h))

-- ---- the head
-- bytes written in front of bytes: one writing of both
over_front : (xs ys d : Bytes) (n : ℕ) → length xs ≡ n → n ≤ length d → over xs (over_at n ys d) ≡ over (xs ++ ys) d
unfolding over over_at
over_front xs ys d n e h =
    let t : Bytes = drop (n + length ys) d in
    rw (e, append_assoc (take n d) ys t, drop_at (take n d) (ys ++ t) n (length-take-le n d h), length-append xs ys, append_assoc xs ys (drop (length xs + length ys) d), e)

-- after `close_list`, whatever the slots are
pub list_closed : (hs : List Bytes) (n : ℕ) (b : Bytes) → Each handle_size hs → length hs ≡ n → 5 + handle_size * n ≤ length b → {d d' : Bytes} (more : Bool) (t : List Slot)
    → d ≡ holding hs b → d' ≡ over (list_start n more) d → d' ≡ over (reply_frame 8 (done (handles more hs) t)) b
unfolding holding list_start frame reply_frame
list_closed hs n b each count fits more t p q =
    q
    ∙ rw p (over_front (list_start n more) (joined hs) b 5 refl (omega arith))
    ∙ ap (λ (m : ℕ). over (head_of 8 0 m ++ ((if more then 128 else 0) ∷ joined hs)) b) says
  where
    says : 1 + handle_size * n ≡ suc (length (joined hs))
    says = omega (arith, size hs n b each count fits)

-- the head of a list is written in two parts
start_written : (n : ℕ) (more : Bool) (d : Bytes) → 5 ≤ length d → over_at 4 ((if more then 128 else 0) ∷ []) (over_at 0 (head_of 8 0 (1 + handle_size * n)) d) ≡ over (list_start n more) d
unfolding list_start
start_written n more d h =
    let head : Bytes = head_of 8 0 (1 + handle_size * n) in
    let flag : Bytes = (if more then 128 else 0) ∷ [] in
    over_more head flag d 0 4 refl h ∙ over_start (head ++ flag) d

-- the same, step by step
pub start_steps : (n : ℕ) (more : Bool) (d : Bytes) {h d₁ d₂ : Bytes} {f : ℕ} → h ≡ head_of 8 0 (1 + handle_size * n) → f ≡ (if more then 128 else 0) → d₁ ≡ over_at 0 h d
    → d₂ ≡ over_at 4 (f ∷ []) d₁ → 5 ≤ length d → d₂ ≡ over (list_start n more) d
start_steps n more d eh ef e₁ e₂ l = rw (e₂, e₁, eh, ef) (start_written n more d l)
