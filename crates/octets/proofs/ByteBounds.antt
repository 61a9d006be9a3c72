-- The bytes of a slice, each of which is known to fit, are below 256. Assumes nothing.
use Prim.Native.Nat.{ℕ}
use native.Mathlib.Omega.{arith}
use lib.ListN.{get_or}
use mir.Syntax.{w8}
use mir.Val.{Fits}
use Rattle.profile.specs.Bytes.{Bytes, Bytes256}

pub below_256 : (s : Bytes) → ((i : ℕ) → Fits w8 (get_or s i 0)) → Bytes256 s
below_256 s f i = omega (arith, f i)
