-- PROFILE 8, in worked cases: what the history tells of each exchange, and of a run of calls.
use Rattle.std.specs.Prelude.{ℕ, ◌≡◌, List, [], ◌∷◌, ◌++◌, map, take, replicate}
use Rattle.std.proofs.Math.Option.{none, some}
use Rattle.profile.specs.Bytes.{Bytes}
use Rattle.profile.specs.Slot.{Some, Right, right_with, reserved, enabled, disabled, empty, taken}
use Rattle.profile.specs.Frame.{parameter}
use Rattle.profile.specs.Request.{Request, setup, install, retrieve, rek, enable, remove, cancel, list, info, asks, refused, no_frame}
use Rattle.profile.specs.Tally.{Tally, tally_with}
use Rattle.profile.specs.Agent.{Call}
use Rattle.profile.specs.History.{open_setup, for_use, lent, gone, Ledger, blank_ledger, right_number, Exchange, told, history}
use Rattle.profile.specs.Run.{exchange, exchanges, blank_table, table_after_all, ledger_then, under_slots, under_ledger, Agrees}
use Rattle.profile.specs.CaseBytes.{hex, H1, H2, H3, H4, H1_last, K, L, A, five}
use Rattle.profile.specs.CaseTables.{blank, lent7}

-- a right with a kept count of 7, the same with 3, and another
abbrev pub plain : Right
plain = right_with K (Some 7) (A ∷ []) five

abbrev pub counted3 : Right
counted3 = right_with K (Some 3) (A ∷ []) five

abbrev pub other : Right
other = right_with L (Some 258) (A ∷ []) (hex "BC")

abbrev pub other3 : Right
other3 = right_with L (Some 3) (A ∷ []) (hex "BC")

-- ---- one exchange after another state: two setups; a right for use under H1, one lent under H2, one gone
abbrev pub before : Ledger
before = record { setups = open_setup H3 5 ∷ open_setup H4 9 ∷ []; rights = for_use H1 plain ∷ lent H2 other ∷ gone plain ∷ [] }

pub record Case : Type 0 where
  pub request : Request
  pub status : ℕ
  pub after : Ledger

-- PROFILE 8.2: what each kind tells
unfoldable pub tellings : List Case
tellings =
    record {
      request = setup H1_last 6;
      status = 0;
      after = record { setups = open_setup H1_last 6 ∷ open_setup H3 5 ∷ open_setup H4 9 ∷ []; rights = for_use H1 plain ∷ lent H2 other ∷ gone plain ∷ [] };
    }
    ∷ record { request = install H3 plain; status = 0; after = record { setups = open_setup H4 9 ∷ []; rights = for_use H1 plain ∷ lent H2 other ∷ gone plain ∷ for_use H3 plain ∷ [] } }
    ∷ record { request = install H4 other; status = 0; after = record { setups = open_setup H3 5 ∷ []; rights = for_use H1 plain ∷ lent H2 other ∷ gone plain ∷ for_use H4 other ∷ [] } }
    ∷ record { request = retrieve H1 H1_last; status = 0; after = record { setups = open_setup H3 5 ∷ open_setup H4 9 ∷ []; rights = lent H1_last plain ∷ lent H2 other ∷ gone plain ∷ [] } }
    ∷ record { request = rek H1 H1_last; status = 0; after = record { setups = open_setup H3 5 ∷ open_setup H4 9 ∷ []; rights = lent H1_last plain ∷ lent H2 other ∷ gone plain ∷ [] } }
    ∷ record { request = rek H1_last H1; status = 0; after = before }
    -- the right under the handle, lent or for use
    ∷ record { request = retrieve H2 H1_last; status = 0; after = record { setups = open_setup H3 5 ∷ open_setup H4 9 ∷ []; rights = for_use H1 plain ∷ lent H1_last other ∷ gone plain ∷ [] } }
    ∷ record { request = enable H2 (Some 3); status = 0; after = record { setups = open_setup H3 5 ∷ open_setup H4 9 ∷ []; rights = for_use H1 plain ∷ for_use H2 other3 ∷ gone plain ∷ [] } }
    ∷ record { request = enable H1 (Some 3); status = 0; after = before }
    ∷ record { request = enable H3 (Some 3); status = 0; after = before }
    ∷ record { request = remove H1; status = 0; after = record { setups = open_setup H3 5 ∷ open_setup H4 9 ∷ []; rights = gone plain ∷ lent H2 other ∷ gone plain ∷ [] } }
    ∷ record { request = remove H2; status = 0; after = record { setups = open_setup H3 5 ∷ open_setup H4 9 ∷ []; rights = for_use H1 plain ∷ gone other ∷ gone plain ∷ [] } }
    ∷ record { request = remove H3; status = 0; after = before }
    ∷ record { request = cancel H3; status = 0; after = record { setups = open_setup H4 9 ∷ []; rights = for_use H1 plain ∷ lent H2 other ∷ gone plain ∷ [] } }
    ∷ record { request = cancel H4; status = 0; after = record { setups = open_setup H3 5 ∷ []; rights = for_use H1 plain ∷ lent H2 other ∷ gone plain ∷ [] } }
    ∷ record { request = cancel H1; status = 0; after = before }
    ∷ record { request = list 0 (A ∷ []); status = 0; after = before }
    ∷ record { request = info H1; status = 0; after = before }
    -- PROFILE 8.1: a status other than 0 tells nothing
    ∷ record { request = setup H1_last 6; status = 7; after = before }
    ∷ record { request = install H3 plain; status = 1; after = before }
    ∷ record { request = retrieve H1 H2; status = 5; after = before }
    ∷ record { request = rek H2 H1_last; status = 6; after = before }
    ∷ record { request = enable H2 (Some 3); status = 4; after = before }
    ∷ record { request = remove H1; status = 8; after = before }
    ∷ record { request = cancel H3; status = 255; after = before }
    ∷ []

abbrev pub telling : Case → Ledger
telling c = told before (record { request = c.request; status = c.status })

-- ---- a run of calls on two blank slots: two installations with equal bytes, a lending between them, and one refused
abbrev pub frames : List (Tally × Bytes)
frames =
    (tally_with 2 0 0 0 0, hex "21 80 00 0C" ++ H1 ++ hex "00 05")
    ∷ (tally_with 1 1 0 0 0, hex "22 C0 00 36" ++ H1 ++ K ++ hex "00 07 10" ++ A ++ five)
    ∷ (tally_with 1 0 1 0 5, hex "24 80 00 14" ++ H1 ++ H2)
    ∷ (tally_with 1 0 0 1 5, hex "21 80 00 0C" ++ H1 ++ hex "00 05")
    ∷ (tally_with 0 1 0 1 5, hex "22 C0 00 36" ++ H1 ++ K ++ hex "00 07 10" ++ A ++ five)
    ∷ (tally_with 0 0 1 1 10, hex "24 80 00 14" ++ H2 ++ H3)
    ∷ (tally_with 0 0 1 1 10, hex "26 80 00")
    ∷ []

abbrev pub asking : Request → ℕ → Exchange
asking q s = record { request = q; status = s }

-- its exchanges: the frame that is no request has none
abbrev pub run : List Exchange
run =
    asking (setup H1 5) 0
    ∷ asking (install H1 plain) 0
    ∷ asking (rek H1 H2) 0
    ∷ asking (setup H1 5) 0
    ∷ asking (install H1 plain) 0
    ∷ asking (rek H2 H3) 6
    ∷ []

-- how it might go on: the return, twice, a lending by kind 3, a removal, a setup cancelled and one that stays
abbrev pub further : List Exchange
further =
    asking (enable H2 (Some 3)) 0
    ∷ asking (enable H2 (Some 4)) 0
    ∷ asking (retrieve H1 H3) 0
    ∷ asking (remove H3) 0
    ∷ asking (setup H4 5) 0
    ∷ asking (cancel H4) 0
    ∷ asking (setup H4 9) 0
    ∷ []

-- PROFILE 8.2: two installations of the same bytes are two rights: one lent, one for use; in the end one for use again, one gone
abbrev pub halfway : Ledger
halfway = record { setups = []; rights = lent H2 plain ∷ for_use H1 plain ∷ [] }

abbrev pub ledger : Ledger
ledger = record { setups = open_setup H4 9 ∷ []; rights = for_use H2 counted3 ∷ gone plain ∷ [] }

-- calls with these tallies and frames
abbrev pub calls : ℕ → List (Tally × Bytes) → List Call
calls room fs = map (λ f. record { tally = f.0; start = 0; request = f.1; buffer = replicate room 0xAA }) fs

pub record Hold : Type 0 where
  pub each : map telling tellings ≡ map (λ c. c.after) tellings
  -- the run: its exchanges; the table after the first three; the ledger
  pub ran : exchanges (blank_table 2) (calls 4279 frames) ≡ run
  pub left : table_after_all 2 (calls 4279 (take 3 frames)) ≡ lent7 ++ blank
  pub tells : history blank_ledger run ≡ halfway
  pub goes_on : history blank_ledger (run ++ further) ≡ ledger
  pub then_told : ledger_then 1 (calls 4279 ((tally_with 1 0 0 0 0, hex "21 80 00 0C" ++ H1 ++ hex "00 05") ∷ [])) ≡ record { setups = open_setup H1 5 ∷ []; rights = [] }
  pub blank_at_first : blank_table 2 ≡ blank ++ blank
  -- a call that gave a number, and a frame that is no request, have no exchange
  pub numbered : exchanges (blank_table 1) (calls 4278 ((tally_with 1 0 0 0 0, hex "21 80 00 0C" ++ H1 ++ hex "00 05") ∷ [])) ≡ []
  pub with_number : exchange (asks (remove H1)) (record { number = 104; reply = hex "26 00 00 00"; table = []; tally = tally_with 0 0 0 0 0 }) ≡ []
  pub with_status : exchange (asks (remove H1)) (record { number = 0; reply = hex "26 04 00 00"; table = []; tally = tally_with 0 0 0 0 0 }) ≡ asking (remove H1) 4 ∷ []
  pub not_asked : exchange (refused parameter) (record { number = 0; reply = hex "26 00 00 00"; table = []; tally = tally_with 0 0 0 0 0 }) ≡ []
  pub no_frame_lem : exchange no_frame (record { number = 0; reply = hex "26 00 00 00"; table = []; tally = tally_with 0 0 0 0 0 }) ≡ []
  -- the rights by their numbers
  pub by_number : map (λ i. right_number i ledger) (0 ∷ 1 ∷ 2 ∷ []) ≡ some (for_use H2 counted3) ∷ some (gone plain) ∷ none ∷ []
  -- what stands under a handle, by the ledger and by the slots
  pub under_run : map (λ h. under_ledger h ledger) (H1 ∷ H2 ∷ H3 ∷ H4 ∷ []) ≡ [] ∷ (enabled counted3 ∷ []) ∷ [] ∷ (reserved 9 ∷ []) ∷ []
  pub under_ledger_lem : map (λ h. under_ledger h before) (H1 ∷ H2 ∷ H3 ∷ H4 ∷ H1_last ∷ [])
      ≡ (enabled plain ∷ []) ∷ (disabled other ∷ []) ∷ (reserved 5 ∷ []) ∷ (reserved 9 ∷ []) ∷ [] ∷ []
  pub under_slots_lem : map (λ h. under_slots h (taken H1 (enabled plain) ∷ empty ∷ taken H2 (disabled other) ∷ taken H3 (reserved 5) ∷ taken H1 (reserved 9) ∷ [])) (H1 ∷ H2 ∷ H3 ∷ H1_last ∷ [])
      ≡ (enabled plain ∷ reserved 9 ∷ []) ∷ (disabled other ∷ []) ∷ (reserved 5 ∷ []) ∷ [] ∷ []
  -- PROFILE 8.3: slots and ledger agree: not where a record is missing, and not where two stand under one handle
  pub not_missing : ¬ Agrees (record { setups = []; rights = for_use H1 plain ∷ [] }) (empty ∷ [])
  pub not_more : ¬ Agrees blank_ledger (taken H1 (reserved 5) ∷ [])
  pub not_twice : ¬ Agrees (record { setups = []; rights = for_use H1 plain ∷ for_use H1 plain ∷ [] }) (taken H1 (enabled plain) ∷ taken H1 (enabled plain) ∷ [])
