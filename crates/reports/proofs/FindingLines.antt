-- The line of a slot, those of some slots one after another, and the last one. Assumes nothing.
use Prim.Native.Nat.{ℕ, zero, suc, ◌+◌, ◌*◌, ◌≤◌, ◌<◌}
use mathlib.Core.Path.{◌≡◌, refl, sym, ap, ◌∙◌}
use mathlib.Core.List.{[], ◌∷◌, ◌++◌, append_assoc, append-nil}
use native.Mathlib.Omega.{arith}
use native.Mathlib.Nat.{add-zero, zero-add}
use native.Mathlib.Numerals.{add-one}
use lib.ListN.{length, get_or, take, length-append}
use lib.Seq.{take-suc, length-take-le}
use Rattle.profile.specs.Bytes.{Bytes}
use Rattle.profile.specs.Text.{text}
use Rattle.texts.specs.Written.{number, numbered}
use Rattle.texts.specs.Put.{Put}
use Rattle.texts.specs.declared.Text.{Text}
use Rattle.texts.proofs.Digits.{number_few}
use Rattle.texts.proofs.Writing.{put_none, put_then}
use Rattle.reports.specs.Printing.{word_of, line_of, lines_from, lines_of, cleared_text}

-- ---- the word of a byte
module _ {b : ℕ} {t t' : Text} where
  pub is_kept : b ≡ 0 → Put (text "kept") t t' → Put (word_of b) t t'
  unfolding word_of
  is_kept e w = rw e w

  pub is_damaged : b ≡ 1 → Put (text "damaged") t t' → Put (word_of b) t t'
  unfolding word_of
  is_damaged e w = rw e w

pub is_repeated : (b : ℕ) {t t' : Text} → (b ≡ 0 → ⊥) → (b ≡ 1 → ⊥) → Put (text "repeated") t t' → Put (word_of b) t t'
unfolding word_of
is_repeated zero n m w = absurd (n refl)
is_repeated (suc zero) n m w = absurd (m refl)
is_repeated (suc (suc b)) n m w = w

pub word_most : (b : ℕ) → length (word_of b) ≤ 8
unfolding word_of
word_most zero = omega arith
word_most (suc zero) = omega arith
word_most (suc (suc b)) = omega arith

-- ---- one line
pub line_there : (i b : ℕ) {t t₁ t₂ t₃ t₄ : Text} → Put (number i) t t₁ → Put (text " ") t₁ t₂ → Put (word_of b) t₂ t₃ → Put (text "\n") t₃ t₄ → Put (line_of i b) t t₄
unfolding line_of
line_there i b u v w x = put_then (put_then (put_then u v) w) x

line_most : (i b : ℕ) → i < 100 → length (line_of i b) ≤ 12
unfolding line_of
line_most i b h = simp length-append (omega (arith, number_few 1 i h, word_most b))

pub is_cleared : (n : ℕ) → numbered (text "cleared ") n ≡ cleared_text n
unfolding cleared_text numbered number
is_cleared n = refl

-- ---- the lines of the first i slots
lines_snoc : (k : ℕ) (xs : Bytes) (b : ℕ) → lines_from k (xs ++ (b ∷ [])) ≡ lines_from k xs ++ line_of (k + length xs) b
lines_snoc k [] b = rw (add-zero k) (append-nil (line_of k b))
lines_snoc k (x ∷ xs) b =
    let e : suc k + length xs ≡ k + suc (length xs) = omega arith in
    rw (lines_snoc (suc k) xs b, e) (sym (append_assoc (line_of k x) (lines_from (suc k) xs) (line_of (k + suc (length xs)) b)))

lines_next : (report : Bytes) (i : ℕ) → i < length report → lines_of (take (i + 1) report) ≡ lines_of (take i report) ++ line_of i (get_or report i 0)
unfolding lines_of
lines_next report i h =
    let from_0 : 0 + length (take i report) ≡ i = zero-add (length (take i report)) ∙ length-take-le i report (omega (arith, h)) in
    let more : take (i + 1) report ≡ take i report ++ (get_or report i 0 ∷ []) = rw (add-one i) (take-suc report i 0 h) in
    ap (lines_from 0) more ∙ lines_snoc 0 (take i report) (get_or report i 0) ∙ ap (λ (k : ℕ). lines_from 0 (take i report) ++ line_of k (get_or report i 0)) from_0

-- they were put after what the text had, and are no longer than they may be
pub record Passed (report : Bytes) (x : Text) (i : ℕ) (y : Text) : Type 0 where
  pub put : Put (lines_of (take i report)) x y
  pub short : y.at ≤ x.at + 12 * i

module _ (report : Bytes) (x : Text) where
  pub passed_none : x.at ≤ length x.out.now → Passed report x 0 x
  unfolding lines_of
  passed_none h = record { put = put_none x h; short = omega arith }

  pub pass_next : (i : ℕ) (y : Text) → i < 100 → i < length report → Passed report x i y → (y' : Text) → Put (line_of i (get_or report i 0)) y y' → Passed report x (i + 1) y'
  pass_next i y few h p y' w =
      record {
        put = rw (lines_next report i h) (put_then p.put w);
        short = omega (arith, p.short, w.wrote.ends, line_most i (get_or report i 0) few);
      }
