-- Bytes put one after the other. Assumes nothing.
use Prim.Native.Nat.{ℕ, ◌+◌, ◌≤◌}
use mathlib.Core.Path.{◌≡◌, refl, sym, ap, ap₂, ◌∙◌}
use mathlib.Core.List.{[], ◌++◌, append-nil}
use native.Mathlib.Omega.{arith}
use native.Mathlib.Nat.{add-zero, zero-add}
use lib.ListN.{length, take, length-append, take-append-drop}
use Rattle.std.specs.Borrow.{MutBor}
use Rattle.profile.specs.Bytes.{Bytes, over}
use Rattle.profile.specs.Text.{text}
use Rattle.buffers.specs.Over.{over_at}
use Rattle.buffers.proofs.Overlays.{over_length, over_more, over_start}
use Rattle.texts.specs.Written.{Wrote, number, numbered, refusal}
use Rattle.texts.specs.Put.{Begun, Put, Room}
use Rattle.texts.specs.declared.Text.{Text}

-- ---- what was put: nothing; something, and then more
pub wrote_none : (d : Bytes) (at : ℕ) → at ≤ length d → Wrote [] at d d at
unfolding over_at
wrote_none d at h =
    record { ends = sym (add-zero at); inside = h; written = sym (rw (append-nil (take at d), add-zero at) (take-append-drop at d)) }

module _ {xs d d' : Bytes} {at end : ℕ} (w : Wrote xs at d d' end) where
  pub wrote_length : length d' ≡ length d
  wrote_length = rw w.written (over_length xs d at (omega (arith, w.ends, w.inside)))

  pub wrote_then : {ys d'' : Bytes} {end' : ℕ} → Wrote ys end d' d'' end' → Wrote (xs ++ ys) at d d'' end'
  wrote_then {ys} {d''} {end'} v =
      let room : end' ≤ length d = omega (arith, v.inside, wrote_length) in
      record {
        ends = omega (arith, v.ends, w.ends, length-append xs ys);
        inside = room;
        written = v.written ∙ ap (λ (l : Bytes). over_at end ys l) w.written ∙ over_more xs ys d at end w.ends (omega (arith, v.ends));
      }

-- ---- the same of a text
pub put_none : (t : Text) → t.at ≤ length t.out.now → Put [] t t
put_none t h = record { same = refl; wrote = wrote_none t.out.now t.at h }

module _ {xs : Bytes} {t t' : Text} (p : Put xs t t') where
  pub put_then : {ys : Bytes} {t'' : Text} → Put ys t' t'' → Put (xs ++ ys) t t''
  put_then q = record { same = q.same ∙ p.same; wrote = wrote_then p.wrote q.wrote }

  pub room_after : (n : ℕ) → Room (length xs + n) t → Room n t'
  room_after n h = omega (arith, h, p.wrote.ends, wrote_length p.wrote)

-- one that began at the start of a buffer
module _ {out : MutBor Bytes} {t t' : Text} {xs : Bytes} (b : Begun out 0 t) (p : Put xs t t') where
  pub text_ends : t'.at ≡ length xs
  text_ends = p.wrote.ends ∙ ap (λ (n : ℕ). n + length xs) b.begins ∙ zero-add (length xs)

  pub text_is : t'.out.now ≡ over xs out.now
  text_is = p.wrote.written ∙ ap₂ (λ (n : ℕ) (d : Bytes). over_at n xs d) b.begins b.as_lent ∙ over_start xs out.now

-- ---- a line of a word and a number
pub numbered_there : (word : Bytes) (n : ℕ) {t t₁ t₂ t₃ : Text} → Put word t t₁ → Put (number n) t₁ t₂ → Put (text "\n") t₂ t₃ → Put (numbered word n) t t₃
unfolding numbered
numbered_there word n u v w = put_then (put_then u v) w

pub is_refusal : (n : ℕ) → numbered (text "refused ") n ≡ refusal n
unfolding numbered number refusal
is_refusal n = refl
