-- PROFILE 8.4 in worked cases: one run with two choices of starts, and what the words of its statement exclude.
use Rattle.std.specs.Prelude.{ℕ, ◌≡◌, List, [], ◌∷◌, ◌++◌, take, replicate}
use Rattle.profile.specs.Bytes.{Bytes}
use Rattle.profile.specs.Slot.{reserved, enabled, disabled, Slot, empty, taken}
use Rattle.profile.specs.Tally.{Tally, tally_with}
use Rattle.profile.specs.Agent.{Call, agent}
use Rattle.profile.specs.Run.{blank_table, table_then}
use Rattle.profile.specs.CaseBytes.{hex, H1, H2, H3, K, L, A, five}
use Rattle.profile.specs.CaseTables.{blank, after7, counted7, hashed1}
use Rattle.profile.specs.HistoryCases.{plain, other}
use Rattle.profile.specs.Starts.{SameRecords, AlikeButPlaces, OtherStart, OtherStarts, SameList, SameCall, SameRun}

-- a call from a start, with a tally, a frame and a reply buffer that holds AA in each byte
abbrev pub calling : Tally → ℕ → Bytes → Call
calling tally start f = record { tally = tally; start = start; request = f; buffer = replicate 4279 0xAA }

-- the same with another buffer
abbrev pub elsewhere : Tally → Bytes → Call
elsewhere tally f = record { tally = tally; start = 0; request = f; buffer = replicate 4279 0xBB }

-- ---- tallies: of one, two and three blank slots; of one with a right of 5 bytes, alone and beside blank ones; of two rights and a blank slot
abbrev pub blank1 : Tally
blank1 = tally_with 1 0 0 0 0

abbrev pub blank2 : Tally
blank2 = tally_with 2 0 0 0 0

abbrev pub blank3 : Tally
blank3 = tally_with 3 0 0 0 0

abbrev pub right5 : Tally
right5 = tally_with 0 0 1 0 5

abbrev pub rights2 : Tally
rights2 = tally_with 1 0 2 0 6

-- ---- frames: two rights, under H1 and under H3, each set up and installed; a list of all handles, and of one
abbrev pub setup1 : Bytes
setup1 = hex "21 80 00 0C" ++ H1 ++ hex "00 05"

abbrev pub install1 : Bytes
install1 = hex "22 80 00 36" ++ H1 ++ K ++ hex "00 00 10" ++ A ++ five

abbrev pub setup3 : Bytes
setup3 = hex "21 80 00 0C" ++ H3 ++ hex "00 01"

abbrev pub install3 : Bytes
install3 = hex "22 C0 00 32" ++ H3 ++ L ++ hex "01 02 10" ++ A ++ hex "BC"

-- the four of them on three blank slots, from these starts
abbrev pub loading : ℕ → ℕ → ℕ → ℕ → List Call
loading a b c d = calling blank3 a setup1 ∷ calling (tally_with 2 1 0 0 0) b install1 ∷ calling (tally_with 2 0 1 0 5) c setup3 ∷ calling (tally_with 1 1 1 0 5) d install3 ∷ []

abbrev pub list_all : Bytes
list_all = hex "28 80 00 03 00 00 00"

abbrev pub list_one : Bytes
list_one = hex "28 80 00 03 00 0A 00"

abbrev pub remove1 : Bytes
remove1 = hex "26 80 00 0A" ++ H1

abbrev pub info1 : Bytes
info1 = hex "29 80 00 0A" ++ H1

abbrev pub info2 : Bytes
info2 = hex "29 80 00 0A" ++ H2

-- ---- slots with two rights, and with the same in the other order
abbrev pub here : List Slot
here = taken H1 (enabled plain) ∷ taken H3 (enabled other) ∷ []

abbrev pub there : List Slot
there = taken H3 (enabled other) ∷ taken H1 (enabled plain) ∷ []

-- ---- these are what the definitions say
pub record Hold : Type 0 where
  -- the same frames on three blank slots, from slot 0 and from slot 2: the second right lands in slot 1, and past the last slot in slot 0
  pub from_0 : table_then (blank_table 3) (loading 0 0 0 0) ≡ after7 ++ hashed1 ++ blank
  pub from_2 : table_then (blank_table 3) (loading 2 1 2 0) ≡ hashed1 ++ blank ++ after7
  -- their lists are in the order of the slots, and with a limit of one handle they have another one
  pub list_0 : take 25 (agent (after7 ++ hashed1 ++ blank) (calling rights2 0 list_all)).reply ≡ hex "28 00 00 15 00" ++ H1 ++ H3
  pub list_2 : take 25 (agent (hashed1 ++ blank ++ after7) (calling rights2 2 list_all)).reply ≡ hex "28 00 00 15 00" ++ H3 ++ H1
  pub one_0 : take 15 (agent (after7 ++ hashed1 ++ blank) (calling rights2 0 list_one)).reply ≡ hex "28 00 00 0B 80" ++ H1
  pub one_2 : take 15 (agent (hashed1 ++ blank ++ after7) (calling rights2 2 list_one)).reply ≡ hex "28 00 00 0B 80" ++ H3
  -- the same records: not with another content, another place or another handle, with one lost, or on more slots
  pub other_right : ¬ SameRecords (taken H1 (enabled plain) ∷ []) (taken H1 (enabled other) ∷ [])
  pub other_place : ¬ SameRecords (taken H1 (enabled plain) ∷ []) (taken H1 (disabled plain) ∷ [])
  pub other_handle : ¬ SameRecords (taken H1 (reserved 5) ∷ []) (taken H2 (reserved 5) ∷ [])
  pub lost : ¬ SameRecords (taken H1 (reserved 5) ∷ empty ∷ []) (empty ∷ empty ∷ [])
  pub more_slots : ¬ SameRecords (empty ∷ []) (empty ∷ empty ∷ [])
  -- two well-formed tables that hold the same records: these, with the records in other slots
  pub alike : AlikeButPlaces (after7 ++ hashed1 ++ blank) (hashed1 ++ blank ++ after7)
  -- other starts: those of the two runs, call by call; and two that are outside
  pub two_runs : OtherStarts 3 (loading 0 0 0 0) (loading 2 1 2 0)
  pub both_outside : OtherStart 3 (calling blank3 3 setup1) (calling blank3 7 setup1)
  -- but not with another tally, frame or buffer, nor with one start on the table and one outside it
  pub other_tally : ¬ OtherStart 2 (calling blank2 0 info1) (calling right5 1 info1)
  pub other_frame : ¬ OtherStart 2 (calling blank2 0 info1) (calling blank2 1 info2)
  pub other_buffer : ¬ OtherStart 2 (calling blank2 0 info1) (elsewhere blank2 info1)
  pub one_outside : ¬ OtherStart 2 (calling blank2 1 info1) (calling blank2 2 info1)
  -- the same call: not with another number, another status, other records, another tally or another reply, to a list too
  pub call_number : ¬ SameCall blank [] (calling blank1 0 info1) (calling blank1 0 info1)
  pub call_status : ¬ SameCall after7 blank (calling right5 0 info1) (calling blank1 0 info1)
  pub call_records : ¬ SameCall blank (blank ++ blank) (calling blank1 0 info1) (calling blank2 0 info1)
  pub call_tally : ¬ SameCall blank blank (calling blank1 1 info1) (calling blank2 1 info1)
  pub call_reply : ¬ SameCall after7 after7 (calling right5 0 info1) (elsewhere right5 info1)
  pub call_list : ¬ SameCall after7 after7 (calling right5 0 list_all) (elsewhere right5 list_all)
  -- the same run: not with another number, another exchange or other records
  pub run_number : ¬ SameRun blank blank (calling blank1 0 [] ∷ []) []
  pub run_exchange : ¬ SameRun blank blank (calling blank1 0 info1 ∷ []) (calling blank1 0 info2 ∷ [])
  pub run_records : ¬ SameRun blank (blank ++ blank) [] []
  -- the records afterwards, not those before: of two rights with other counts, both removed, none is left
  pub both_gone : SameRun after7 counted7 (calling right5 0 remove1 ∷ []) (calling right5 0 remove1 ∷ [])
  -- the same list: not with another `more`, with fewer handles, with one that the other slots do not have, or, where none is left off, with another
  pub list_more : ¬ SameList [] here there [] (hex "28 00 00 0B 80" ++ H1) (hex "28 00 00 0B 00" ++ H3)
  pub list_fewer : ¬ SameList [] here there [] (hex "28 00 00 15 80" ++ H1 ++ H3) (hex "28 00 00 0B 80" ++ H3)
  pub list_unknown : ¬ SameList [] here there [] (hex "28 00 00 0B 80" ++ H2) (hex "28 00 00 0B 80" ++ H3)
  pub list_other : ¬ SameList [] here there [] (hex "28 00 00 0B 00" ++ H1) (hex "28 00 00 0B 00" ++ H3)
