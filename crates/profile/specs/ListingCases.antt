-- PROFILE 7, in worked cases: tables, and what `cardlist` prints of them.
use Rattle.std.specs.Prelude.{◌≡◌, List, [], ◌∷◌, ◌++◌, map, ℕ, replicate}
use Prim.Native.String.{String}
use Rattle.profile.specs.Bytes.{Bytes}
use Rattle.profile.specs.Text.{text}
use Rattle.profile.specs.Listing.{listing, lines, decimal}
use Rattle.profile.specs.CaseBytes.{hex, laid, changed, H2}
use Rattle.profile.specs.CaseTables.{blank, after1, after7, used_up, bare, bare_lent, hashed8, longest, waiting}

-- disabled, with the greatest count, and the length 256
abbrev pub counted : Bytes
counted = laid ((0, hex "C2") ∷ (1, H2) ∷ (27, hex "FF FF") ∷ (29, hex "01 00") ∷ [])

-- a table, and the text
unfoldable pub cases : List (Bytes × String)
cases =
    -- after case 1
    (after1, "slot place hashes count length\n0 reserved 0 0 5\n")
    -- all four places
    ∷ (hashed8 ++ blank ++ counted ++ waiting, "slot place hashes count length\n0 enabled 8 7 5\n1 empty 0 0 0\n2 disabled 0 65535 256\n3 reserved 0 0 5\n")
    ∷ (changed 27 0x04 (changed 28 0xD2 longest), "slot place hashes count length\n0 enabled 1 1234 4096\n")
    -- the number of a count, whether one is kept or not
    ∷ (after7 ++ used_up, "slot place hashes count length\n0 enabled 1 0 5\n1 enabled 1 0 5\n")
    -- a right without a hash
    ∷ (bare ++ bare_lent, "slot place hashes count length\n0 enabled 0 0 5\n1 disabled 0 0 5\n")
    -- PROFILE 7.2: refused tables
    ∷ ([], "refused 102\n")
    ∷ (replicate 4289 0x01, "refused 102\n")
    ∷ (changed 191 0x01 after1, "refused 103\n")
    ∷ (after1 ++ after1, "refused 103\n")
    ∷ []

-- PROFILE 7.1: decimal numbers
unfoldable pub numbers : List (ℕ × String)
numbers =
    (0, "0")
    ∷ (9, "9")
    ∷ (10, "10")
    ∷ (14, "14")
    ∷ (99, "99")
    ∷ (100, "100")
    ∷ (999, "999")
    ∷ (1000, "1000")
    ∷ (4096, "4096")
    ∷ (9999, "9999")
    ∷ (10000, "10000")
    ∷ (12345, "12345")
    ∷ (60789, "60789")
    ∷ (65535, "65535")
    ∷ []

pub record Hold : Type 0 where
  pub printed : map (λ c. listing c.0) cases ≡ map (λ c. text c.1) cases
  pub decimals : map (λ c. decimal c.0) numbers ≡ map (λ c. text c.1) numbers
  -- the index has two digits from the eleventh slot on
  pub later : lines 9 (after1 ∷ blank ∷ counted ∷ []) ≡ text "9 reserved 0 0 5\n10 empty 0 0 0\n11 disabled 0 65535 256\n"
