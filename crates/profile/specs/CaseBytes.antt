-- Words for the worked cases: bytes in hex as PROFILE 9 shows them, slots laid out by hand, and the handles, keys and hashes that occur.
use Rattle.std.specs.Prelude.{ℕ, zero, suc, ◌+◌, ◌-◌, ◌*◌, ◌/◌, ◌%◌, List, [], ◌∷◌, ◌++◌, length, take, drop, replicate, ltb, if◌then◌else◌}
use Prim.Native.String.{String}
use Rattle.profile.specs.Bytes.{Bytes}
use Rattle.profile.specs.Text.{text}

-- ---- hex: two digits a byte, one space between
abbrev pub digit : ℕ → ℕ
digit c = if ltb c 58 then c - 48 else c - 55

abbrev pub pairs : Bytes → Bytes
pairs [] = []
pairs (a ∷ []) = []
pairs (a ∷ b ∷ []) = (16 * digit a + digit b) ∷ []
pairs (a ∷ b ∷ space ∷ s) = (16 * digit a + digit b) ∷ pairs s

abbrev pub hex : String → Bytes
hex s = pairs (text s)

-- n bytes, each one more than the one before
abbrev pub counting : ℕ → ℕ → Bytes
counting first zero = []
counting first (suc n) = first ∷ counting (first + 1) n

-- a frame: its first two bytes, the length of its body, its body
abbrev pub sized : String → Bytes → Bytes
sized head body = hex head ++ (length body / 256 ∷ length body % 256 ∷ body)

-- ---- slots
-- byte strings at their offsets, in order, and zeros elsewhere: from an offset on, and the whole slot of 4,288 bytes
abbrev pub laid_from : ℕ → List (ℕ × Bytes) → Bytes
laid_from at [] = replicate (4288 - at) 0
laid_from at (p ∷ ps) = replicate (p.0 - at) 0 ++ p.1 ++ laid_from (p.0 + length p.1) ps

abbrev pub laid : List (ℕ × Bytes) → Bytes
laid ps = laid_from 0 ps

-- with another byte at an offset
abbrev pub changed : ℕ → ℕ → Bytes → Bytes
changed at x s = take at s ++ (x ∷ drop (at + 1) s)

-- with another handle
abbrev pub renamed : Bytes → Bytes → Bytes
renamed h s = take 1 s ++ h ++ drop 11 s

-- ---- handles: H1 and H2 as in PROFILE 9, and others
abbrev pub H0 : Bytes
H0 = replicate 10 0x00

abbrev pub H1 : Bytes
H1 = replicate 10 0x01

abbrev pub H2 : Bytes
H2 = replicate 10 0x02

abbrev pub H3 : Bytes
H3 = replicate 10 0x03

abbrev pub H4 : Bytes
H4 = replicate 10 0x04

-- H1 but for its last byte, and but for its first
abbrev pub H1_last : Bytes
H1_last = replicate 9 0x01 ++ (0x02 ∷ [])

abbrev pub H1_first : Bytes
H1_first = 0x02 ∷ replicate 9 0x01

-- ---- two keys, and hashes: A and B, A but for its last byte, A but for its first, eight different ones
abbrev pub K : Bytes
K = counting 0x01 16

abbrev pub L : Bytes
L = counting 0xE0 16

abbrev pub A : Bytes
A = counting 0xA0 20

abbrev pub B : Bytes
B = counting 0x40 20

abbrev pub A_last : Bytes
A_last = counting 0xA0 19 ++ (0xFF ∷ [])

abbrev pub A_first : Bytes
A_first = 0xFF ∷ counting 0xA1 19

abbrev pub eight : Bytes
eight = counting 0x10 160

-- five bytes of payload
abbrev pub five : Bytes
five = hex "A1 A2 A3 A4 A5"

-- ---- fields of frames, of different bytes: a handle, a new one, a key, two hashes; the eight hashes one by one
abbrev pub h : Bytes
h = counting 0x01 10

abbrev pub n : Bytes
n = counting 0x11 10

abbrev pub key : Bytes
key = counting 0x21 16

abbrev pub p : Bytes
p = counting 0x40 20

abbrev pub q : Bytes
q = counting 0x60 20

abbrev pub eight_hashes : List Bytes
eight_hashes =
    counting 0x10 20
    ∷ counting 0x24 20
    ∷ counting 0x38 20
    ∷ counting 0x4C 20
    ∷ counting 0x60 20
    ∷ counting 0x74 20
    ∷ counting 0x88 20
    ∷ counting 0x9C 20
    ∷ []
