-- PROFILE 2.10, 2.11 and 9.7, in worked cases: damaged tables, what is left of them, their reports, and what is printed.
use Rattle.std.specs.Prelude.{ℕ, ◌≡◌, List, [], ◌∷◌, ◌++◌, map, take}
use Prim.Native.String.{String}
use Rattle.profile.specs.Bytes.{Bytes}
use Rattle.profile.specs.Text.{text}
use Rattle.profile.specs.Slot.{reserved, empty, taken}
use Rattle.profile.specs.Salvage.{kept, damaged, repeated, judge, mended, left_by, cleared, Salvaged, salvage}
use Rattle.profile.specs.Salvages.{Beside}
use Rattle.profile.specs.SalvageText.{table_printed, finding_lines, salvage_text}
use Rattle.profile.specs.CaseBytes.{hex, changed, renamed, H0, H1, H4}
use Rattle.profile.specs.CaseTables.{blank, after1, after7, after9, after11, counted7, bare, hashed2, nameless, waiting}

-- ---- damaged slots
-- slots 7 and 9 with a byte before the payload that is not 0
abbrev pub worn7 : Bytes
worn7 = changed 191 0x01 after7

abbrev pub worn9 : Bytes
worn9 = changed 191 0x01 after9

-- ---- tables with the report buffer AA AA AA: the number, the report buffer and the table afterwards
abbrev pub gives : Bytes → ℕ → String → Bytes → Bytes × Salvaged
gives t n report u = (t, record { number = n; table = u; report = hex report })

abbrev pub refuses : Bytes → ℕ → Bytes × Salvaged
refuses t n = gives t n "AA AA AA" t

unfoldable pub tables : List (Bytes × Salvaged)
tables =
    -- PROFILE 9.7, case 24
    gives after7 0 "00 AA AA" after7
    ∷ gives worn7 1 "01 AA AA" blank
    ∷ gives (worn7 ++ after7) 1 "01 00 AA" (blank ++ after7)
    ∷ gives (after7 ++ after1) 1 "00 02 AA" (after7 ++ blank)
    ∷ gives (after1 ++ after7) 1 "00 02 AA" (after1 ++ blank)
    ∷ gives (after9 ++ worn7 ++ after11) 2 "00 01 02" (after9 ++ blank ++ blank)
    ∷ gives (after9 ++ worn9 ++ blank) 1 "00 01 00" (after9 ++ blank ++ blank)
    ∷ refuses (after7 ++ blank ++ blank ++ blank) 107
    ∷ refuses (take 4287 after7) 102
    -- three with one handle: the lowest is kept
    ∷ gives (counted7 ++ after7 ++ after1) 2 "00 02 02" (counted7 ++ blank ++ blank)
    -- each of three damaged, an empty one among them
    ∷ gives (worn7 ++ changed 4287 0x01 blank ++ worn7) 3 "01 01 01" (blank ++ blank ++ blank)
    -- ten zeros are a handle, which an empty slot has not
    ∷ gives (blank ++ nameless ++ renamed H0 after7) 1 "00 00 02" (blank ++ nameless ++ blank)
    ∷ gives (nameless ++ blank ++ blank) 0 "00 00 00" (nameless ++ blank ++ blank)
    -- nothing is damaged: rights without a hash and with a count are in order
    ∷ gives (bare ++ after11 ++ waiting) 0 "00 00 00" (bare ++ after11 ++ waiting)
    -- a count without its bit, as before counts had it, is damage
    ∷ gives (changed 0 0x84 counted7) 1 "01 AA AA" blank
    -- 102 by the length, before 107
    ∷ refuses [] 102
    ∷ refuses (0x00 ∷ after7 ++ blank ++ blank ++ blank) 102
    ∷ []

-- ---- tables, and what is printed: the table left, and the report in words
unfoldable pub printed : List (Bytes × Bytes × String)
printed =
    (after7, after7, "0 kept\ncleared 0\n")
    ∷ (after9 ++ worn7 ++ after11, after9 ++ blank ++ blank, "0 kept\n1 damaged\n2 repeated\ncleared 2\n")
    ∷ ([], [], "refused 102\n")
    ∷ (take 4287 after7, [], "refused 102\n")
    ∷ (0x00 ∷ after7, [], "refused 102\n")
    ∷ []

-- ---- these are what the definitions say
pub record Hold : Type 0 where
  pub salvaged : map (λ c. salvage c.0 (hex "AA AA AA")) tables ≡ map (λ c. c.1) tables
  -- a report buffer of as many bytes as there are slots is enough, and one of none is not
  pub enough : salvage worn7 (hex "AA") ≡ record { number = 1; table = blank; report = hex "01" }
  pub no_room : salvage worn7 [] ≡ record { number = 107; table = worn7; report = [] }
  -- a slot beside lower ones, damaged before repeated; what it is taken for; what is left of it
  pub judged : map (judge (taken H1 (reserved 5) ∷ empty ∷ [])) (after7 ∷ after9 ∷ worn7 ∷ blank ∷ []) ≡ repeated ∷ kept ∷ damaged ∷ kept ∷ []
  pub taken_for : map mended (worn7 ∷ waiting ∷ blank ∷ []) ≡ empty ∷ taken H4 (reserved 5) ∷ empty ∷ []
  pub left : map (λ f. left_by f hashed2) (kept ∷ damaged ∷ repeated ∷ []) ≡ hashed2 ∷ blank ∷ blank ∷ []
  pub counted : cleared (kept ∷ damaged ∷ repeated ∷ kept ∷ damaged ∷ []) ≡ 3
  -- a slot that did not change gives way to a record below it under its handle alone: not to one above it, nor to one that is damaged or has another handle
  pub below : ¬ Beside 1 after7 0 after7 blank
  pub a_record : ¬ Beside 0 worn7 1 after7 blank
  pub its_handle : ¬ Beside 0 after9 1 after7 blank
  -- what the salvage of a table prints; the index has two digits from the eleventh slot on
  pub prints : map (λ c. salvage_text c.0) printed ≡ map (λ c. text c.2) printed
  pub prints_table : map (λ c. table_printed c.0) printed ≡ map (λ c. c.1) printed
  pub later : finding_lines 9 (kept ∷ repeated ∷ []) ≡ text "9 kept\n10 repeated\n"
