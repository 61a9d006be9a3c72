-- The parts of a report by the bytes that say what was found, and what there is to print.
use Rattle.std.specs.Prelude.{ℕ, zero, suc, ◌≡◌, [], ◌∷◌, ◌++◌, length, take}
use Rattle.profile.specs.Bytes.{Bytes, zeros, over}
use Rattle.profile.specs.Sizes.{most_slots}
use Rattle.profile.specs.Text.{text}
use Rattle.profile.specs.Salvage.{salvage}
use Rattle.profile.specs.SalvageText.{table_printed, cleared_line, salvage_text}
use Rattle.texts.specs.Written.{number}

-- a byte of the report, as its word
unfoldable pub word_of : ℕ → Bytes
word_of zero = text "kept"
word_of (suc zero) = text "damaged"
word_of (suc (suc b)) = text "repeated"

-- the line of slot i, and those of the slots from i on
unfoldable pub line_of : ℕ → ℕ → Bytes
line_of i b = number i ++ text " " ++ word_of b ++ text "\n"

abbrev pub lines_from : ℕ → Bytes → Bytes
lines_from i [] = []
lines_from i (b ∷ report) = line_of i b ++ lines_from (suc i) report

unfoldable pub lines_of : Bytes → Bytes
lines_of report = lines_from 0 report

unfoldable pub cleared_text : ℕ → Bytes
cleared_text n = cleared_line n

-- of a table and a buffer: how they are afterwards, and how many bytes of each there are to print
pub record Prints (table buffer left written : Bytes) (table_end textEnd : ℕ) : Type 0 where
  pub left_is : left ≡ (salvage table (zeros most_slots)).table
  pub table_printed_lem : take table_end left ≡ table_printed table
  pub table_ends : table_end ≡ length (table_printed table)
  pub written_is : written ≡ over (salvage_text table) buffer
  pub text_ends : textEnd ≡ length (salvage_text table)
