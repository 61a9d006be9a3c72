-- PROFILE 4.4, 4.5, 8.7 and 9.8 in worked cases: what returns do to counts, totalling calls, what a ledger tells of them, and sequences of such calls.
use Rattle.std.specs.Prelude.{ℕ, ◌≡◌, List, [], ◌∷◌, ◌++◌, map, true, false, ℤ, pos, neg_ℤ, take}
use Rattle.profile.specs.Bytes.{Bytes}
use Rattle.profile.specs.Slot.{None, Some, Right, right_with, reserved, enabled, disabled, empty, taken}
use Rattle.profile.specs.Tally.{tally_with}
use Rattle.profile.specs.Request.{Request, setup, install, retrieve, rek, enable, remove, cancel, list, info}
use Rattle.profile.specs.Agent.{Call}
use Rattle.profile.specs.History.{for_use, lent, gone, Ledger, Exchange}
use Rattle.profile.specs.CaseBytes.{hex, changed, renamed, H0, H1, H2, H3, H4, K, A, five}
use Rattle.profile.specs.CaseTables.{blank, after1, after7, after9, after11, last1, lent1, used_up, lent2, hashed2}
use Rattle.profile.specs.Cases.{Case, buffer, expected, done, gives, refused, stopped, from, keeps, enable as back, enable_free as back_free}
use Rattle.profile.specs.Total.{Return, no_return, returned, return_by, return_in, Totals, totals_with, totals_hold, Totalled, totalling}
use Rattle.profile.specs.Totals.{Within, returns_told, changes_of, counted_in, totals_then, table_totalled, calls_made, FrameBytes, no_totals}

-- so much below 0
abbrev pub below : ℕ → ℤ
below n = neg_ℤ (pos n)

-- ---- totalling calls: a call and what it gives, the totals before and afterwards, and the change, which was 77 before
pub record TotalCase : Type 0 where
  pub case : Case
  pub before : Totals
  pub after : Totals
  pub change : ℤ

abbrev pub call_of : Case → Call
call_of c = record { tally = c.tally; start = c.start; request = c.request; buffer = buffer c.room }

abbrev pub given : TotalCase → Totalled
given x = totalling x.case.table (call_of x.case) x.before (pos 77)

abbrev pub wanted : TotalCase → Totalled
wanted x = record { outcome = expected x.case; totals = x.after; change = x.change }

-- from these totals to those, with this change
abbrev pub totals : Case → Totals → Totals → ℤ → TotalCase
totals c t u z = record { case = c; before = t; after = u; change = z }

-- totals that stay as they are, with the change 0; and with 108, which leaves the change too
abbrev pub uncounted : Case → TotalCase
uncounted c = totals c (totals_with (below 1) 2) (totals_with (below 1) 2) (pos 0)

abbrev pub outside : Totals → Case → TotalCase
outside t c = totals c t t (pos 77)

-- lent under H2 with the greatest count, and with a kept count of 0; enabled under H2 with the greatest
abbrev pub lent_most : Bytes
lent_most = changed 27 0xFF (changed 28 0xFF lent1)

abbrev pub lent_none : Bytes
lent_none = changed 28 0x00 lent1

abbrev pub back_most : Bytes
back_most = changed 27 0xFF (changed 28 0xFF used_up)

-- a call refused with 108, on the return of case 25
abbrev pub not108 : Case
not108 = stopped lent1 4279 (back H2 "00 00") 108

-- PROFILE 9.8
unfoldable pub cases : List TotalCase
cases =
    -- case 25
    totals (done lent1 (back H2 "00 00") used_up) no_totals (totals_with (below 1) 1) (below 1)
    ∷ totals (refused lent1 (back H2 "00 04") "09") (totals_with (below 1) 1) (totals_with (below 1) 1) (pos 0)
    ∷ totals (done lent1 (back H2 "00 01") (changed 28 0x01 used_up)) (totals_with (below 1) 1) (totals_with (below 1) 2) (pos 0)
    ∷ uncounted (refused lent1 (back_free H2 "00 00") "09")
    ∷ uncounted (refused after9 (back H2 "00 03") "09")
    ∷ uncounted (done after9 (back_free H2 "00 00") (renamed H2 after7))
    ∷ uncounted (done after11 (back H2 "00 04") after11)
    ∷ totals (done lent1 (back H2 "00 00") used_up) (totals_with (below 1965984465) 29999) (totals_with (below 1965984466) 30000) (below 1)
    -- case 26
    ∷ outside (totals_with (pos 0) 30000) not108
    ∷ outside (totals_with (pos 1) 0) not108
    ∷ outside (totals_with (pos 65536) 1) not108
    ∷ outside (totals_with (below 65536) 1) not108
    ∷ outside (totals_with (pos 0) 30000) (stopped (take 4287 lent1) 4279 [] 108)
    -- the least change and the greatest, and totals at their bounds; a total above 0 is carried on, and falls
    ∷ totals (done lent_most (back H2 "00 00") used_up) (totals_with (below 65535) 1) (totals_with (below 131070) 2) (below 65535)
    ∷ totals (done lent_most (back H2 "FF FF") back_most) (totals_with (pos 1965984465) 29999) (totals_with (pos 1965984465) 30000) (pos 0)
    ∷ totals (done lent_most (back H2 "FF FE") (changed 28 0xFE back_most)) (totals_with (pos 65535) 1) (totals_with (pos 65534) 2) (below 1)
    ∷ totals (refused lent_none (back H2 "FF FF") "09") (totals_with (pos 65535) 1) (totals_with (pos 65535) 1) (pos 0)
    ∷ totals (done lent_most (back H2 "00 00") used_up) (totals_with (below 1965984465) 29999) (totals_with (below 1966050000) 30000) (below 65535)
    -- a kept count of 0 is a count like any other
    ∷ totals (done lent_none (back H2 "00 00") used_up) (totals_with (pos 2) 3) (totals_with (pos 2) 4) (pos 0)
    -- the record that is returned is the one under the request's handle, wherever it stands
    ∷ totals (done (lent1 ++ blank ++ lent2) (back H3 "01 00") (lent1 ++ blank ++ changed 28 0x00 hashed2)) no_totals (totals_with (below 2) 1) (below 2)
    ∷ []

-- ---- calls that return nothing: every number, every status of kind 5, and every other kind
unfoldable pub others : List TotalCase
others =
    uncounted (stopped lent1 4278 (back H2 "00 00") 101)
    ∷ uncounted (stopped (take 4287 lent1) 4279 (back H2 "00 00") 102)
    ∷ uncounted (from 1 (stopped lent1 4279 (back H2 "00 00") 105))
    ∷ uncounted (stopped (changed 191 0x01 lent1) 4279 (back H2 "00 00") 103)
    ∷ uncounted (keeps (tally_with 0 0 1 0 5) (stopped lent1 4279 (back H2 "00 00") 106))
    ∷ uncounted (stopped lent1 4279 (take 15 (back H2 "00 00")) 104)
    ∷ uncounted (refused lent1 (changed 1 0x40 (back H2 "00 00")) "01")
    ∷ uncounted (refused lent1 (changed 1 0x80 (back H2 "00 01")) "02")
    ∷ uncounted (refused lent1 (back H1 "00 00") "04")
    ∷ uncounted (refused after1 (back H1 "00 00") "06")
    ∷ uncounted (done blank (hex "21 80 00 0C" ++ H1 ++ hex "00 05") after1)
    ∷ uncounted (done after1 (hex "22 80 00 36" ++ H1 ++ K ++ hex "00 00 10" ++ A ++ five) after7)
    ∷ uncounted (gives last1 (hex "23 80 00 14" ++ H1 ++ H2) (hex "23 80 00 2C" ++ K ++ hex "00 01 10" ++ A ++ five) lent1)
    ∷ uncounted (gives last1 (hex "24 80 00 14" ++ H1 ++ H2) (hex "24 00 00 10" ++ K) lent1)
    ∷ uncounted (done lent1 (hex "26 80 00 0A" ++ H2) blank)
    ∷ uncounted (done after1 (hex "27 80 00 0A" ++ H1) blank)
    ∷ uncounted (gives lent1 (hex "28 80 00 03 00 00 00") (hex "28 00 00 01 00") lent1)
    ∷ uncounted (gives last1 (hex "29 80 00 0A" ++ H1) (hex "29 80 00 07 00 01" ++ five) last1)
    ∷ []

-- ---- 108 before each other number
unfoldable pub firsts : List TotalCase
firsts =
    map (outside (totals_with (pos 0) 30000))
    (stopped lent1 4278 (back H2 "00 00") 108
    ∷ from 1 (stopped lent1 4279 (back H2 "00 00") 108)
    ∷ stopped (changed 191 0x01 lent1) 4279 (back H2 "00 00") 108
    ∷ keeps (tally_with 0 0 1 0 5) (stopped lent1 4279 (back H2 "00 00") 108)
    ∷ stopped lent1 4279 [] 108
    ∷ [])

-- ---- totals, and whether they hold
unfoldable pub bounds : List Totals
bounds =
    no_totals
    ∷ totals_with (pos 0) 29999
    ∷ totals_with (pos 65535) 1
    ∷ totals_with (below 65535) 1
    ∷ totals_with (pos 1965984465) 29999
    ∷ totals_with (below 1965984465) 29999
    ∷ []

unfoldable pub beyond : List Totals
beyond =
    totals_with (pos 0) 30000
    ∷ totals_with (pos 0) 65535
    ∷ totals_with (pos 1) 0
    ∷ totals_with (below 1) 0
    ∷ totals_with (pos 65536) 1
    ∷ totals_with (below 65536) 1
    ∷ totals_with (pos 1965984466) 29999
    ∷ totals_with (below 1965984466) 29999
    ∷ totals_with (pos 2147483647) 29999
    ∷ totals_with (below 2147483648) 29999
    ∷ []

-- ---- what a ledger tells: two rights that are lent, one with a count of 7 and one without; one for use, and one that is gone
abbrev pub seven : Right
seven = right_with K (Some 7) (A ∷ []) five

abbrev pub free : Right
free = right_with K None (A ∷ []) five

abbrev pub ledger : Ledger
ledger = record { setups = []; rights = gone seven ∷ for_use H1 seven ∷ lent H2 seven ∷ lent H3 free ∷ [] }

abbrev pub asking : Request → ℕ → Exchange
asking q s = record { request = q; status = s }

-- exchanges, and what each returns: a return, which is sent again; a right for use; one without a count; a lending, and a return without a count; a lending, a
-- return that is refused, and one with more than was stored; requests of other kinds
unfoldable pub tellings : List (Exchange × Return)
tellings =
    (asking (enable H2 (Some 5)) 0, returned (Some 7) (Some 5))
    ∷ (asking (enable H2 (Some 9)) 0, no_return)
    ∷ (asking (enable H1 (Some 2)) 0, no_return)
    ∷ (asking (enable H3 (Some 2)) 0, returned None (Some 2))
    ∷ (asking (rek H1 H4) 0, no_return)
    ∷ (asking (enable H4 None) 0, returned (Some 7) None)
    ∷ (asking (retrieve H2 H0) 0, no_return)
    ∷ (asking (enable H0 (Some 3)) 1, no_return)
    ∷ (asking (enable H0 (Some 6)) 0, returned (Some 5) (Some 6))
    ∷ (asking (setup H2 5) 0, no_return)
    ∷ (asking (install H2 seven) 0, no_return)
    ∷ (asking (list 0 []) 0, no_return)
    ∷ (asking (info H2) 0, no_return)
    ∷ (asking (remove H2) 0, no_return)
    ∷ (asking (cancel H2) 0, no_return)
    ∷ []

-- ---- three calls on the card of case 25: a return, the same again, and a lending
abbrev pub lending : Bytes
lending = hex "24 80 00 14" ++ H2 ++ H1

abbrev pub calls : List Call
calls =
    call_of (done lent1 (back H2 "00 00") used_up)
    ∷ call_of (done used_up (back H2 "00 00") used_up)
    ∷ call_of (gives used_up lending [] [])
    ∷ []

-- ---- these are what the definitions say
pub record Hold : Type 0 where
  pub called : map given cases ≡ map wanted cases
  pub nothing_returned : map given others ≡ map wanted others
  pub comes_first : map given firsts ≡ map wanted firsts
  -- 108 by the totals alone
  pub hold : map totals_hold bounds ≡ true ∷ true ∷ true ∷ true ∷ true ∷ true ∷ []
  pub not_hold : map totals_hold beyond ≡ false ∷ false ∷ false ∷ false ∷ false ∷ false ∷ false ∷ false ∷ false ∷ false ∷ []
  -- what a request returns on some slots: only an enablement of a record that is disabled
  pub by_slots : map (λ h. return_by (taken H1 (enabled seven) ∷ empty ∷ taken H2 (disabled seven) ∷ taken H3 (reserved 5) ∷ []) (enable h (Some 2))) (H1 ∷ H2 ∷ H3 ∷ H4 ∷ [])
      ≡ no_return ∷ returned (Some 7) (Some 2) ∷ no_return ∷ no_return ∷ []
  pub by_others : map (return_by (taken H2 (disabled seven) ∷ [])) (setup H2 5 ∷ install H2 seven ∷ retrieve H2 H1 ∷ rek H2 H1 ∷ remove H2 ∷ cancel H2 ∷ list 0 [] ∷ info H2 ∷ [])
      ≡ no_return ∷ no_return ∷ no_return ∷ no_return ∷ no_return ∷ no_return ∷ no_return ∷ no_return ∷ []
  pub by_status : map (λ s. return_in (taken H2 (disabled seven) ∷ []) (asking (enable H2 (Some 2)) s ∷ [])) (0 ∷ 1 ∷ 7 ∷ []) ≡ returned (Some 7) (Some 2) ∷ no_return ∷ no_return ∷ []
  -- what a ledger tells, one after another; the sum of the changes, and how many are counted
  pub told : returns_told ledger (map (λ x. x.0) tellings) ≡ map (λ x. x.1) tellings
  pub summed : changes_of (map (λ x. x.1) tellings) ≡ below 1
  pub many : counted_in (map (λ x. x.1) tellings) ≡ 2
  -- a sequence of calls from 0 and 0, and one from totals that are full, of which none is made
  pub then_totals : totals_then lent1 no_totals calls ≡ totals_with (below 1) 1
  pub then_table : table_totalled lent1 no_totals calls ≡ renamed H1 (changed 0 0xC6 used_up)
  pub then_made : calls_made lent1 no_totals calls ≡ calls
  pub full_totals : totals_then lent1 (totals_with (pos 4) 30000) calls ≡ totals_with (pos 4) 30000
  pub full_table : table_totalled lent1 (totals_with (pos 4) 30000) calls ≡ lent1
  pub none_made : calls_made lent1 (totals_with (pos 4) 30000) calls ≡ []
  pub in_bytes : FrameBytes calls
  -- what is within the bounds, and what is not
  pub at_least : Within (totals_with (below 1966050000) 30000)
  pub not_many : ¬ Within (totals_with (pos 0) 30001)
  pub not_above : ¬ Within (totals_with (pos 65536) 1)
  pub not_below : ¬ Within (totals_with (below 65536) 1)
