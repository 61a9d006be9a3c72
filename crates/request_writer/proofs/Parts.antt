-- Parts of a body one after another: one part more, and how long they are. Assumes nothing.
use Prim.Native.Nat.{ℕ, zero, suc, ◌+◌, ◌≤◌, ◌<◌}
use mathlib.Core.Path.{◌≡◌, sym}
use mathlib.Core.List.{List, [], ◌∷◌, ◌++◌, append_assoc}
use native.Mathlib.Omega.{arith}
use lib.ListN.{length, take, get_or, length-append}
use Rattle.std.specs.Borrow.{Bor}
use Rattle.std.proofs.Common.{add-one}
use Rattle.std.proofs.lemmas.List.{append-nil}
use Rattle.profile.specs.Bytes.{Bytes}
use Rattle.request_writer.specs.Writing.{parts_joined}

-- part i
abbrev pub part_at : List (Bor Bytes) → ℕ → Bytes
part_at parts i = (get_or parts i (record { ref_ptr = (0, 0); now = [] })).now

one_more : (parts : List (Bor Bytes)) (i : ℕ) → i < length parts → parts_joined (take (suc i) parts) ≡ parts_joined (take i parts) ++ part_at parts i
one_more [] i h = absurd (omega arith)
one_more (p ∷ ps) zero h = append-nil p.now
one_more (p ∷ ps) (suc i) h = rw (one_more ps i (omega arith)) (sym (append_assoc p.now (parts_joined (take i ps)) (part_at ps i)))

some_of_all : (parts : List (Bor Bytes)) (i : ℕ) → length (parts_joined (take i parts)) ≤ length (parts_joined parts)
some_of_all [] zero = omega arith
some_of_all [] (suc i) = omega arith
some_of_all (p ∷ ps) zero = omega arith
some_of_all (p ∷ ps) (suc i) =
    let h = some_of_all ps i in
    rw (length-append p.now (parts_joined (take i ps)), length-append p.now (parts_joined ps)) (omega arith)

module _ (parts : List (Bor Bytes)) (i : ℕ) (h : i < length parts) where
  pub parts_more : parts_joined (take (i + 1) parts) ≡ parts_joined (take i parts) ++ part_at parts i
  parts_more = rw add-one (one_more parts i h)

  -- so that part and those before it are no longer than all
  pub parts_room : length (parts_joined (take i parts)) + length (part_at parts i) ≤ length (parts_joined parts)
  parts_room = rw (← length-append (parts_joined (take i parts)) (part_at parts i), ← one_more parts i h) (some_of_all parts (suc i))
