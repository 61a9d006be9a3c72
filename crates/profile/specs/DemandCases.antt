-- The words of PROFILE 8.2 and 8.3 in worked cases, with what they exclude: the ledger at first, records that agree, what rights hold, calls by which a key
-- goes out, returns, and tables that differ in keys alone.
use Rattle.std.specs.Prelude.{◌≡◌, List, [], ◌∷◌, ◌++◌, map, true, false, take, drop, replicate}
use Rattle.profile.specs.Bytes.{Bytes}
use Rattle.profile.specs.Slot.{None, Some, right_with, reserved, enabled, disabled, Slot, empty, taken}
use Rattle.profile.specs.Request.{install, rek, retrieve, enable, remove}
use Rattle.profile.specs.Tally.{Tally, tally_with}
use Rattle.profile.specs.Agent.{Call}
use Rattle.profile.specs.History.{open_setup, Owned, for_use, lent, gone, Ledger, blank_ledger, Exchange, history}
use Rattle.profile.specs.CaseBytes.{hex, changed, H0, H1, H2, H3, H4, K, L, A, B, five}
use Rattle.profile.specs.CaseTables.{blank, after7, after9, counted7, hashed2, waiting}
use Rattle.profile.specs.HistoryCases.{plain, other, asking}
use Rattle.profile.specs.Run.{ledger_of}
use Rattle.profile.specs.Contents.{installations, last_count, held, count_after, Contents}
use Rattle.profile.specs.Demand3.{Records, KeyOut, returned, AlikeButKeys}

-- a call with a tally and a frame
abbrev pub calling : Tally → Bytes → Call
calling tally f = record { tally = tally; start = 0; request = f; buffer = replicate 4279 0xAA }

-- a slot with another key, its bytes 11 to 26
abbrev pub rekeyed : Bytes → Bytes → Bytes
rekeyed key s = take 11 s ++ key ++ drop 27 s

-- a ledger with these rights and no setup
abbrev pub ledger_with : List Owned → Ledger
ledger_with rights = record { setups = []; rights = rights }

-- ---- a card that is in use: a reservation, a right that is lent, an empty slot, a right for use, and another reservation
abbrev pub in_use_card : List Slot
in_use_card = taken H4 (reserved 5) ∷ taken H2 (disabled plain) ∷ empty ∷ taken H1 (enabled other) ∷ taken H0 (reserved 9) ∷ []

-- ---- exchanges: two rights with equal bytes; the first is lent, comes back with a kept count of 3, is lent again and comes back with 2; the second is removed;
-- among them requests that are refused, and a return that is sent again
abbrev pub later : List Exchange
later =
    asking (install H1 plain) 0
    ∷ asking (enable H2 (Some 9)) 4
    ∷ asking (enable H2 (Some 3)) 0
    ∷ asking (enable H2 (Some 8)) 0
    ∷ asking (retrieve H2 H3) 0
    ∷ asking (rek H3 H4) 6
    ∷ asking (enable H3 (Some 2)) 0
    ∷ asking (remove H1) 0
    ∷ asking (install H1 other) 7
    ∷ []

abbrev pub exchanged : List Exchange
exchanged = asking (install H1 plain) 0 ∷ asking (rek H1 H2) 0 ∷ later

-- ---- these are what the definitions say
pub record Hold : Type 0 where
  -- the ledger is read off the slots in their order; an installation then closes its setup, and its right comes after those that were there
  pub read_off : ledger_of in_use_card ≡ record { setups = open_setup H4 5 ∷ open_setup H0 9 ∷ []; rights = lent H2 plain ∷ for_use H1 other ∷ [] }
  pub goes_on : history (ledger_of in_use_card) (asking (install H0 plain) 0 ∷ asking (rek H1 H3) 0 ∷ asking (enable H2 (Some 3)) 4 ∷ [])
      ≡ record { setups = open_setup H4 5 ∷ []; rights = lent H2 plain ∷ lent H3 other ∷ for_use H0 plain ∷ [] }
  -- records agree: not one that is missing, that no right or setup has, that is of another place, or that stands twice
  pub missing : ¬ Records (ledger_with (for_use H1 plain ∷ [])) (empty ∷ [])
  pub untold : ¬ Records blank_ledger (taken H1 (enabled plain) ∷ [])
  pub not_set_up : ¬ Records blank_ledger (taken H1 (reserved 5) ∷ [])
  pub not_lent : ¬ Records (ledger_with (lent H1 plain ∷ [])) (taken H1 (enabled plain) ∷ [])
  pub twice : ¬ Records (ledger_with (for_use H1 plain ∷ [])) (taken H1 (enabled plain) ∷ taken H1 (enabled plain) ∷ [])
  -- rights hold what was sent: not where there is none, where none was installed, or with another key, hash, payload or count
  pub lost : ¬ Contents blank_ledger (asking (install H1 plain) 0 ∷ []) blank_ledger
  pub refused : ¬ Contents blank_ledger (asking (install H1 plain) 7 ∷ []) (ledger_with (for_use H1 plain ∷ []))
  pub other_key : ¬ Contents blank_ledger (asking (install H1 plain) 0 ∷ []) (ledger_with (for_use H1 (right_with L (Some 7) (A ∷ []) five) ∷ []))
  pub other_hash : ¬ Contents blank_ledger (asking (install H1 plain) 0 ∷ []) (ledger_with (for_use H1 (right_with K (Some 7) (B ∷ []) five) ∷ []))
  pub other_payload : ¬ Contents blank_ledger (asking (install H1 plain) 0 ∷ []) (ledger_with (lent H1 (right_with K (Some 7) (A ∷ []) (hex "BC")) ∷ []))
  pub other_count : ¬ Contents blank_ledger (asking (install H1 plain) 0 ∷ []) (ledger_with (gone (right_with K (Some 8) (A ∷ []) five) ∷ []))
  pub other_bit : ¬ Contents blank_ledger (asking (install H1 (right_with K (Some 0) (A ∷ []) five)) 0 ∷ []) (ledger_with (for_use H1 (right_with K None (A ∷ []) five) ∷ []))
  -- a right that was there at first holds what it held, and comes before those installed: not with another key or count, nor in place of an installed one
  pub another : ¬ Contents (ledger_with (for_use H1 plain ∷ [])) [] (ledger_with (for_use H1 (right_with L (Some 7) (A ∷ []) five) ∷ []))
  pub not_returned : ¬ Contents (ledger_with (lent H2 plain ∷ [])) (asking (enable H2 (Some 3)) 0 ∷ []) (ledger_with (for_use H2 plain ∷ []))
  pub out_of_order : ¬ Contents (ledger_with (for_use H1 plain ∷ [])) (asking (install H3 other) 0 ∷ []) (ledger_with (for_use H3 other ∷ for_use H1 plain ∷ []))
  pub one_too_many : ¬ Contents (ledger_with (gone plain ∷ [])) [] (ledger_with (gone plain ∷ gone plain ∷ []))
  pub counts_then : map (λ o. count_after o later) (for_use H1 plain ∷ lent H3 plain ∷ gone plain ∷ []) ≡ Some 7 ∷ Some 2 ∷ Some 7 ∷ []
  -- kinds 4 and 3 send a key
  pub by_rek : KeyOut after7 (calling (tally_with 0 0 1 0 5) (hex "24 80 00 14" ++ H1 ++ H2)) H1 H2
  pub by_retrieval : KeyOut hashed2 (calling (tally_with 0 0 1 0 1) (hex "23 80 00 14" ++ H3 ++ H4)) H3 H4
  -- but not where they are refused, nor does another kind
  pub absent : ¬ KeyOut after9 (calling (tally_with 0 0 0 1 5) (hex "24 80 00 14" ++ H1 ++ H2)) H1 H2
  pub by_info : ¬ KeyOut after7 (calling (tally_with 0 0 1 0 5) (hex "29 80 00 0A" ++ H1)) H1 H2
  -- nor does a call with a tally that is not the table's
  pub other_tally : ¬ KeyOut after7 (calling (tally_with 0 0 0 1 5) (hex "24 80 00 14" ++ H1 ++ H2)) H1 H2
  -- returns that succeeded, under H1 to H4
  pub returns : map (λ k. returned k exchanged) (H1 ∷ H2 ∷ H3 ∷ H4 ∷ []) ≡ false ∷ true ∷ true ∷ false ∷ []
  pub refused_return : returned H2 (asking (enable H2 (Some 9)) 4 ∷ []) ≡ false
  -- the installations that succeeded, and the count that the first of them, and one lent under H3, has at the end
  pub sent : map (λ p. p.right) (installations exchanged) ≡ plain ∷ plain ∷ []
  pub named : map (λ p. p.handle) (installations exchanged) ≡ H1 ∷ H1 ∷ []
  pub after_each : map (λ p. p.later) (installations exchanged) ≡ (asking (rek H1 H2) 0 ∷ later) ∷ drop 1 later ∷ []
  pub last_counts : last_count H1 false (Some 7) (asking (rek H1 H2) 0 ∷ later) ∷ last_count H1 false (Some 7) (drop 1 later) ∷ last_count H3 true (Some 7) later ∷ last_count H2 false (Some 7) [] ∷ []
      ≡ Some 2 ∷ Some 7 ∷ Some 2 ∷ Some 7 ∷ []
  -- a return that is sent again gives no count; nor does one under the handle of a right that is gone
  pub sent_again : last_count H2 true (Some 7) (take 4 later) ≡ Some 3
  pub no_longer : last_count H1 true (Some 7) (asking (remove H1) 0 ∷ asking (enable H1 (Some 3)) 0 ∷ []) ≡ Some 7
  -- used up, a count is kept still; returned without one, none is
  pub used_up : last_count H2 true (Some 1) (asking (enable H2 (Some 0)) 0 ∷ []) ≡ Some 0
  pub given_up : last_count H2 true (Some 1) (asking (enable H2 None) 0 ∷ []) ≡ None
  pub holds : map held (for_use H1 plain ∷ lent H1 other ∷ gone plain ∷ []) ≡ plain ∷ other ∷ plain ∷ []
  -- an enabled and a disabled record with other keys, beside an empty slot and a reservation
  pub alike : AlikeButKeys (after7 ++ blank ++ after9 ++ waiting) (rekeyed L after7 ++ blank ++ rekeyed (replicate 16 0x00) after9 ++ waiting)
  -- but none in which another byte differs, or the number of slots
  pub other_handle : ¬ AlikeButKeys after7 (changed 10 0x02 after7)
  pub other_number : ¬ AlikeButKeys counted7 (changed 27 0x01 counted7)
  pub other_slots : ¬ AlikeButKeys after7 (after7 ++ blank)
