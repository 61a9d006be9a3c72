-- What the tests say of the hashes that pass them. Assumes nothing.
use Prim.Native.Nat.{◌*◌, ◌/◌, ◌%◌}
use mathlib.Core.Path.{◌≡◌, ◌∙◌}
use mathlib.Core.Bool.{Bool, true, ◌&&◌}
use native.Mathlib.Omega.{arith}
use lib.Dec.{eqb, leb}
use lib.ListN.{length}
use lib.Seq.{take_all}
use Rattle.profile.specs.Bytes.{Bytes, joined, pieces}
use Rattle.profile.specs.Sizes.{hash_size, most_hashes}
use Rattle.profile.specs.Device.{whole_hashes}
use Rattle.profile.proofs.Logic.{and_parts, eqb_eq}
use Rattle.profile.proofs.Strings.{length_pieces, joined_pieces}

module _ (s : Bytes) (b : Bool) (allowed : (whole_hashes s && b) ≡ true) where
  whole : length s % hash_size ≡ 0
  whole = eqb_eq (length s % hash_size) 0 (and_parts (eqb (length s % hash_size) 0) (leb (length s / hash_size) most_hashes) (and_parts (whole_hashes s) b allowed).0).0

  -- they are the profile's, piece by piece
  pub hashes_joined : joined (pieces hash_size (length s / hash_size) s) ≡ s
  hashes_joined = let e = whole in joined_pieces hash_size (length s / hash_size) s ∙ take_all (hash_size * (length s / hash_size)) s (omega arith)

  pub hashes_length : length (pieces hash_size (length s / hash_size) s) ≡ length s / hash_size
  hashes_length = length_pieces hash_size (length s / hash_size) s
