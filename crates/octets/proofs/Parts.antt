-- Parts of a string: all of the string as one, and a part of what is left after an offset. Assumes nothing.
use mathlib.Core.Path.{◌≡◌, ap}
use Prim.Native.Nat.{ℕ, ◌+◌}
use lib.ListN.{length, take, drop}
use lib.Seq.{take-length, drop-drop}
use Rattle.profile.specs.Bytes.{Bytes, part}

pub part_all : (s : Bytes) → part 0 (length s) s ≡ s
part_all s = take-length s

pub part_drop : (at from n : ℕ) (s : Bytes) → part from n (drop at s) ≡ part (at + from) n s
part_drop at from n s = ap (λ (l : Bytes). take n l) (drop-drop from at s)
