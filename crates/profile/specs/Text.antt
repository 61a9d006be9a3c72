-- The bytes of a text, so that the words of PROFILE 7.1 stand in these pages as they are printed.
use Prim.Native.Char.{code}
use Prim.Native.String.{String, [], ◌∷◌}
use Rattle.std.specs.Prelude.{[] as none, ◌∷◌ as ◌then◌}
use Rattle.profile.specs.Bytes.{Bytes}

-- each character is one byte
abbrev pub text : String → Bytes
text [] = none
text (c ∷ s) = code c then text s
