-- The words that the other pages are written with, in worked cases.
use Rattle.std.specs.Prelude.{ℕ, ◌≡◌, List, [], ◌∷◌, map, Bool, true, false, eqb, if◌then◌else◌}
use Rattle.profile.specs.Bytes.{Bytes, byte, part, word, word_bytes, zeros, all_zero, same, from1to, over, all, any, joined, pieces}
use Rattle.profile.specs.Text.{text}
use Rattle.profile.specs.CaseBytes.{hex, counting, sized, changed}

-- two byte strings, and whether they are the same
abbrev pub pairs : List (Bytes × Bytes × Bool)
pairs =
    ([], [], true)
    ∷ (hex "01 02 03", hex "01 02 03", true)
    ∷ (hex "01 02 03", hex "01 02 04", false)
    ∷ (hex "01 02 03", hex "00 02 03", false)
    ∷ (hex "01 02", hex "01 02 03", false)
    ∷ (hex "01 02 03", hex "01 02", false)
    ∷ ([], hex "00", false)
    ∷ (hex "00", [], false)
    ∷ []

-- a number, and whether it is from 1 to 3
abbrev pub ranges : List (ℕ × Bool)
ranges = (0, false) ∷ (1, true) ∷ (2, true) ∷ (3, true) ∷ (4, false) ∷ []

pub record Hold : Type 0 where
  -- the bytes of a text, and the hex of these pages
  pub spelled : text "A 0z\n" ≡ 65 ∷ 32 ∷ 48 ∷ 122 ∷ 10 ∷ []
  pub hexed : hex "00 09 0A 0F 10 7B 9C A0 FF" ≡ 0 ∷ 9 ∷ 10 ∷ 15 ∷ 16 ∷ 123 ∷ 156 ∷ 160 ∷ 255 ∷ []
  pub framed : sized "21 80" (counting 1 258) ≡ 33 ∷ 128 ∷ 1 ∷ 2 ∷ counting 1 258
  pub replaced : changed 2 9 (counting 1 4) ≡ 1 ∷ 2 ∷ 9 ∷ 4 ∷ []
  -- a choice; a byte; some bytes; a number of 16 bits, high byte first
  pub chosen : (if true then hex "01" else hex "02") ∷ (if false then hex "01" else hex "02") ∷ [] ≡ hex "01" ∷ hex "02" ∷ []
  pub byted : byte 0 (hex "11 22 33") ∷ byte 2 (hex "11 22 33") ∷ byte 3 (hex "11 22 33") ∷ [] ≡ 0x11 ∷ 0x33 ∷ 0 ∷ []
  pub parted : part 1 2 (hex "11 22 33 44") ≡ hex "22 33"
  pub worded : word 1 (hex "11 22 33 44") ∷ word 3 (hex "11 22 33 44") ∷ word 0 [] ∷ [] ≡ 0x2233 ∷ 0x4400 ∷ 0 ∷ []
  pub bytes_of_words : map word_bytes (0 ∷ 255 ∷ 256 ∷ 0x2233 ∷ 65535 ∷ []) ≡ hex "00 00" ∷ hex "00 FF" ∷ hex "01 00" ∷ hex "22 33" ∷ hex "FF FF" ∷ []
  -- zeros
  pub zeroed : zeros 3 ≡ hex "00 00 00"
  pub zero_tests : map all_zero ([] ∷ hex "00 00" ∷ hex "01 00" ∷ hex "00 01" ∷ hex "00 80 00" ∷ []) ≡ true ∷ true ∷ false ∷ false ∷ false ∷ []
  -- the same bytes; from 1 to 3
  pub sames : map (λ c. same c.0 c.1) pairs ≡ map (λ c. c.2) pairs
  pub ranged : map (λ c. from1to 3 c.0) ranges ≡ map (λ c. c.1) ranges
  -- over a buffer: shorter than it, as long
  pub overed : over (hex "11 22") (hex "AA BB CC DD") ∷ over (hex "11 22") (hex "AA BB") ∷ over [] (hex "AA") ∷ [] ≡ hex "11 22 CC DD" ∷ hex "11 22" ∷ hex "AA" ∷ []
  -- of each, of some; lists joined, and cut
  pub alls : map (all (eqb 0)) ([] ∷ hex "00 00" ∷ hex "01 00" ∷ hex "00 01" ∷ []) ≡ true ∷ true ∷ false ∷ false ∷ []
  pub anys : map (any (eqb 0)) ([] ∷ hex "00 01" ∷ hex "01 00" ∷ hex "01 01" ∷ []) ≡ false ∷ true ∷ true ∷ false ∷ []
  pub joins : joined (hex "11 22" ∷ [] ∷ hex "33" ∷ []) ≡ hex "11 22 33"
  pub cuts : pieces 2 2 (hex "11 22 33 44 55") ≡ hex "11 22" ∷ hex "33 44" ∷ []
