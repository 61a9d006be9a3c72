-- PROFILE 2.11: what the program `cardsalvage` prints: the table left, and the report in words.
use Rattle.std.specs.Prelude.{ℕ, suc, List, [], ◌∷◌, ◌++◌, not, if◌then◌else◌}
use Rattle.profile.specs.Bytes.{Bytes}
use Rattle.profile.specs.Sizes.{table_length}
use Rattle.profile.specs.Text.{text}
use Rattle.profile.specs.Table.{whole_slots}
use Rattle.profile.specs.Salvage.{Finding, kept, damaged, repeated, cleared, findings_of, left_of}
use Rattle.profile.specs.Listing.{decimal, refused_line}

-- ---- to standard output: the table left, and of a refused one nothing
unfoldable pub table_printed : Bytes → Bytes
table_printed table = if not (whole_slots table) then [] else left_of table

-- ---- to standard error: the report in words
abbrev pub finding_word : Finding → Bytes
finding_word kept = text "kept"
finding_word damaged = text "damaged"
finding_word repeated = text "repeated"

-- a slot's line: its index and what is found of it
abbrev pub finding_line : ℕ → Finding → Bytes
finding_line i f = decimal i ++ text " " ++ finding_word f ++ text "\n"

-- the lines of some slots, the first of which has the index i
abbrev pub finding_lines : ℕ → List Finding → Bytes
finding_lines i [] = []
finding_lines i (f ∷ fs) = finding_line i f ++ finding_lines (suc i) fs

-- the last line: how many slots were cleared
abbrev pub cleared_line : ℕ → Bytes
cleared_line n = text "cleared " ++ decimal n ++ text "\n"

-- a refused table has its one line; any other a line for each slot, from index 0, and the number
unfoldable pub salvage_text : Bytes → Bytes
salvage_text table =
    if not (whole_slots table) then refused_line table_length
    else finding_lines 0 (findings_of table) ++ cleared_line (cleared (findings_of table))
