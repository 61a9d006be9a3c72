-- What the reader leaves is what is told of the frame. Assumes nothing.
use Prim.Native.Nat.{ℕ}
use mathlib.Core.Path.{◌≡◌, sym, ap, ◌∙◌}
use mathlib.Core.List.{List}
use Rattle.std.specs.Prelude.{Result}
use Rattle.codes.specs.declared.fault.Fault.{Fault}
use Rattle.profile.specs.Bytes.{Bytes}
use Rattle.reply_reader.specs.declared.answer.Told.{Told}
use Rattle.reply_reader.specs.Told.{meaning, Reads}
use Rattle.cavernlull.specs.Numbers.{Left, leaves, ReadsInto}

pub reads_into : (f key : Bytes) (fields : List ℕ) (t : Result Told Fault) (l : Left) → Reads f t → l ≡ leaves key fields t → ReadsInto f key fields l
reads_into f key fields t l r e = record { exact = e ∙ ap (leaves key fields) r.exact; means = sym (ap (meaning f) r.exact) ∙ r.means }
