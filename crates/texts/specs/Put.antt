-- A text in a buffer, as it begins, and of which more was put.
use Rattle.std.specs.Prelude.{ℕ, ◌+◌, ◌≤◌, ◌≡◌, length}
use Rattle.std.specs.Borrow.{MutBor}
use Rattle.profile.specs.Bytes.{Bytes}
use Rattle.texts.specs.Written.{Wrote}
use Rattle.texts.specs.declared.Text.{Text}

-- nothing yet, at an offset of a buffer, whose bytes are as they were lent
pub record Begun (out : MutBor Bytes) (at : ℕ) (t : Text) : Type 0 where
  pub same : t.out.ghost_name ≡ out.ghost_name
  pub as_lent : t.out.now ≡ out.now
  pub begins : t.at ≡ at

-- bytes more, in the same buffer
pub record Put (xs : Bytes) (t t' : Text) : Type 0 where
  pub same : t'.out.ghost_name ≡ t.out.ghost_name
  pub wrote : Wrote xs t.at t.out.now t'.out.now t'.at

-- room for so many bytes more
abbrev pub Room : ℕ → Text → Type 0
Room n t = t.at + n ≤ length t.out.now
