-- The whole listing: refused, or a header and the lines. Assumes nothing.
use Prim.Native.Nat.{ℕ, ◌≤◌, ◌<◌}
use mathlib.Core.Path.{◌≡◌, ◌∙◌}
use mathlib.Core.List.{◌++◌}
use native.Mathlib.Omega.{arith}
use lib.ListN.{length, length-append}
use Rattle.std.specs.Borrow.{MutBor}
use Rattle.codes.specs.Codes.{fault_number}
use Rattle.codes.specs.declared.fault.Fault.{Fault}
use Rattle.codes.specs.declared.fault.Fault.TheVariants.{TableLength, TableNotWellFormed}
use Rattle.profile.specs.Bytes.{Bytes, over}
use Rattle.profile.specs.Listing.{header, listing}
use Rattle.texts.specs.Written.{refusal}
use Rattle.texts.specs.Put.{Begun, Put}
use Rattle.texts.specs.declared.Text.{Text}
use Rattle.texts.proofs.Writing.{text_ends, text_is}
use Rattle.listing.specs.Written.{Listable, Refuses, lines_of}

-- ---- what a refused table's number is, and that its line is the listing
module _ (t : Bytes) where
  pub refused_few : (f : Fault) → Refuses t f → fault_number f < 1000
  refused_few TableLength r = omega arith
  refused_few TableNotWellFormed r = omega arith
  refused_few _ r = absurd r

  pub refused_is : (f : Fault) → Refuses t f → refusal (fault_number f) ≡ listing t
  unfolding listing refusal
  refused_is TableLength r = rw r
  refused_is TableNotWellFormed r = rw (r.0, r.1)
  refused_is _ r = absurd r

  pub listed_is : Listable t → header ++ lines_of t ≡ listing t
  unfolding listing lines_of
  listed_is fit = rw (fit.whole, fit.well)

-- ---- a text that began at the start of the buffer, and is the listing
pub listed : (t : Bytes) {out : MutBor Bytes} {x y : Text} {xs : Bytes} {end : ℕ} → xs ≡ listing t → Begun out 0 x → Put xs x y → end ≡ y.at
    → (end ≡ length (listing t)) × (y.out.now ≡ over (listing t) out.now)
listed t e b p at = rw (← e) (at ∙ text_ends b p, text_is b p)

-- a listing that stands at the start of a buffer ends within it
pub listing_inside : (t d d' : Bytes) (end : ℕ) → end ≡ length (listing t) → d' ≡ over (listing t) d → end ≤ length d'
unfolding over
listing_inside t d d' end e f = rw f (simp length-append (omega arith))
