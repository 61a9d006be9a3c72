-- PROFILE 5, kind by kind, in worked cases on slots told without their bytes: each test, and each pair of tests of which both apply.
use Rattle.std.specs.Prelude.{ℕ, ◌≡◌, List, [], ◌∷◌, ◌++◌, map, Bool, true, false, take, replicate}
use Rattle.profile.specs.Bytes.{Bytes, joined, pieces}
use Rattle.profile.specs.Slot.{None, Some, Right, right_with, recount, reserved, enabled, disabled, Slot, empty, taken}
use Rattle.profile.specs.Frame.{Refusal, parameter, not_found, duplicate, unexpected, no_space, count_raised}
use Rattle.profile.specs.Request.{Request, setup, install, retrieve, rek, enable, remove, cancel, list, info}
use Rattle.profile.specs.Agent.{Given, nothing, the_right, the_key, handles, counted, Answer, deny, done, act, lowest_empty, first_empty_from, first_of}
use Rattle.profile.specs.CaseBytes.{hex, counting, H1, H2, H3, H4, H1_last, K, L, A, B, A_last, A_first, eight, five}
use Rattle.profile.specs.CaseTables.{fifteen_handles}

-- the slots before, a request, and the answer: a refusal, or what is given and the slots afterwards
pub record Case : Type 0 where
  pub slots : List Slot
  pub request : Request
  pub answer : Answer

abbrev pub denies : List Slot → Request → Refusal → Case
denies t q r = record { slots = t; request = q; answer = deny r }

abbrev pub gives : List Slot → Request → Given → List Slot → Case
gives t q g u = record { slots = t; request = q; answer = done g u }

-- ---- rights: with no hash, with A, with A and B, with B alone, with eight hashes and no count; a key of zeros; a count that is used up; six bytes of payload
abbrev pub plain : Right
plain = right_with K (Some 7) [] five

abbrev pub only_a : Right
only_a = right_with K (Some 7) (A ∷ []) five

abbrev pub both : Right
both = right_with L (Some 258) (A ∷ B ∷ []) (hex "BC")

abbrev pub only_b : Right
only_b = right_with L (Some 258) (B ∷ []) (hex "BC")

abbrev pub full8 : Right
full8 = right_with K None (pieces 20 8 eight) five

abbrev pub zero_key : Right
zero_key = right_with (replicate 16 0x00) (Some 7) [] five

abbrev pub spent : Right
spent = right_with K (Some 0) [] five

abbrev pub six : Right
six = right_with K (Some 7) (A ∷ []) (hex "A1 A2 A3 A4 A5 A6")

-- ---- slots: H1 reserved, H2 enabled, H3 disabled; an empty one after them
abbrev pub full : List Slot
full = taken H1 (reserved 5) ∷ taken H2 (enabled both) ∷ taken H3 (disabled plain) ∷ []

abbrev pub spare : List Slot
spare = taken H1 (reserved 5) ∷ taken H2 (enabled both) ∷ taken H3 (disabled plain) ∷ empty ∷ []

-- ---- PROFILE 5.1
unfoldable pub setups : List Case
setups =
    -- length 0: before a handle in use, and a full table
    denies spare (setup H1 0) parameter
    ∷ denies full (setup H4 0) parameter
    -- a handle in use, whatever the place of its record: before a length over 4,096, and a full table
    ∷ denies spare (setup H1 5) duplicate
    ∷ denies spare (setup H2 5) duplicate
    ∷ denies spare (setup H3 5) duplicate
    ∷ denies spare (setup H3 4097) duplicate
    ∷ denies full (setup H3 5) duplicate
    -- a length over 4,096, and a full table
    ∷ denies spare (setup H4 4097) no_space
    ∷ denies spare (setup H4 65535) no_space
    ∷ denies full (setup H4 5) no_space
    ∷ denies full (setup H4 4097) no_space
    -- the lowest empty slot is reserved
    ∷ gives spare (setup H4 4096) nothing (full ++ (taken H4 (reserved 4096) ∷ []))
    ∷ gives spare (setup H1_last 1) nothing (full ++ (taken H1_last (reserved 1) ∷ []))
    ∷ gives (empty ∷ empty ∷ full) (setup H4 1) nothing (taken H4 (reserved 1) ∷ empty ∷ full)
    ∷ gives (taken H2 (enabled both) ∷ empty ∷ taken H3 (disabled plain) ∷ empty ∷ []) (setup H4 1) nothing (taken H2 (enabled both) ∷ taken H4 (reserved 1) ∷ taken H3 (disabled plain) ∷ empty ∷ [])
    ∷ []

-- ---- PROFILE 5.2
unfoldable pub installations : List Case
installations =
    -- an absent handle; a record that is not reserved; a payload longer than its room
    denies full (install H4 only_a) not_found
    ∷ denies (empty ∷ []) (install H1 only_a) not_found
    ∷ denies full (install H2 only_a) unexpected
    ∷ denies full (install H3 six) unexpected
    ∷ denies full (install H1 six) no_space
    ∷ gives full (install H1 only_a) nothing (taken H1 (enabled only_a) ∷ taken H2 (enabled both) ∷ taken H3 (disabled plain) ∷ [])
    ∷ gives (empty ∷ full) (install H1 both) nothing (empty ∷ taken H1 (enabled both) ∷ taken H2 (enabled both) ∷ taken H3 (disabled plain) ∷ [])
    ∷ []

-- ---- PROFILE 5.3 and 5.4
unfoldable pub lendings : List Case
lendings =
    -- an absent handle; a record that is not enabled: before a new handle in use
    denies full (retrieve H4 H1) not_found
    ∷ denies full (rek H4 H1) not_found
    ∷ denies full (retrieve H1 H2) unexpected
    ∷ denies full (rek H1 H2) unexpected
    ∷ denies full (retrieve H3 H2) unexpected
    ∷ denies full (rek H3 H2) unexpected
    -- whatever its key
    ∷ denies (taken H1 (disabled zero_key) ∷ []) (rek H1 H2) unexpected
    ∷ denies (taken H1 (disabled zero_key) ∷ []) (retrieve H1 H2) unexpected
    -- a new handle in use, by another record or by the record itself
    ∷ denies full (retrieve H2 H1) duplicate
    ∷ denies full (rek H2 H1) duplicate
    ∷ denies full (retrieve H2 H2) duplicate
    ∷ denies full (rek H2 H2) duplicate
    ∷ denies full (retrieve H2 H3) duplicate
    ∷ denies full (rek H2 H3) duplicate
    -- the record is disabled under the new handle, and nothing else changes; so, too, one without a hash
    ∷ gives (taken H1 (enabled plain) ∷ []) (retrieve H1 H2) (the_right plain) (taken H2 (disabled plain) ∷ [])
    ∷ gives (taken H1 (enabled plain) ∷ []) (rek H1 H2) (the_key K) (taken H2 (disabled plain) ∷ [])
    ∷ gives full (retrieve H2 H4) (the_right both) (taken H1 (reserved 5) ∷ taken H4 (disabled both) ∷ taken H3 (disabled plain) ∷ [])
    ∷ gives full (rek H2 H4) (the_key L) (taken H1 (reserved 5) ∷ taken H4 (disabled both) ∷ taken H3 (disabled plain) ∷ [])
    ∷ []

-- ---- PROFILE 5.5, 5.6, 5.7 and 5.9
unfoldable pub others : List Case
others =
    -- 5.5
    denies full (enable H4 (Some 3)) not_found
    ∷ denies full (enable H1 (Some 3)) unexpected
    -- an enabled record stays as it is, whatever the count sent
    ∷ gives full (enable H2 (Some 3)) nothing full
    ∷ gives full (enable H2 (Some 65535)) nothing full
    ∷ gives full (enable H2 None) nothing full
    -- a kept count: fewer, none left, and as many; used up, a count is still kept
    ∷ gives full (enable H3 (Some 3)) nothing (taken H1 (reserved 5) ∷ taken H2 (enabled both) ∷ taken H3 (enabled (recount (Some 3) plain)) ∷ [])
    ∷ gives full (enable H3 (Some 0)) nothing (taken H1 (reserved 5) ∷ taken H2 (enabled both) ∷ taken H3 (enabled (right_with K (Some 0) [] five)) ∷ [])
    ∷ gives full (enable H3 (Some 7)) nothing (taken H1 (reserved 5) ∷ taken H2 (enabled both) ∷ taken H3 (enabled plain) ∷ [])
    ∷ gives (taken H2 (disabled both) ∷ []) (enable H2 (Some 255)) nothing (taken H2 (enabled (right_with L (Some 255) (A ∷ B ∷ []) (hex "BC"))) ∷ [])
    -- one more, more in the high byte, the most, and none
    ∷ denies full (enable H3 (Some 8)) count_raised
    ∷ denies full (enable H3 (Some 263)) count_raised
    ∷ denies full (enable H3 (Some 65535)) count_raised
    ∷ denies full (enable H3 None) count_raised
    ∷ denies (taken H2 (disabled both) ∷ []) (enable H2 (Some 259)) count_raised
    -- a count that is used up
    ∷ gives (taken H2 (disabled spent) ∷ []) (enable H2 (Some 0)) nothing (taken H2 (enabled spent) ∷ [])
    ∷ denies (taken H2 (disabled spent) ∷ []) (enable H2 (Some 1)) count_raised
    ∷ denies (taken H2 (disabled spent) ∷ []) (enable H2 None) count_raised
    -- no count
    ∷ gives (taken H1 (disabled full8) ∷ []) (enable H1 None) nothing (taken H1 (enabled full8) ∷ [])
    ∷ denies (taken H1 (disabled full8) ∷ []) (enable H1 (Some 0)) count_raised
    ∷ denies (taken H1 (disabled full8) ∷ []) (enable H1 (Some 3)) count_raised
    -- 5.6
    ∷ denies full (remove H4) not_found
    ∷ denies full (remove H1) unexpected
    ∷ gives full (remove H2) nothing (taken H1 (reserved 5) ∷ empty ∷ taken H3 (disabled plain) ∷ [])
    ∷ gives full (remove H3) nothing (taken H1 (reserved 5) ∷ taken H2 (enabled both) ∷ empty ∷ [])
    -- 5.7
    ∷ denies full (cancel H4) not_found
    ∷ denies full (cancel H2) unexpected
    ∷ denies full (cancel H3) unexpected
    ∷ gives full (cancel H1) nothing (empty ∷ taken H2 (enabled both) ∷ taken H3 (disabled plain) ∷ [])
    -- 5.9
    ∷ denies full (info H4) not_found
    ∷ denies full (info H1) unexpected
    ∷ denies full (info H3) unexpected
    ∷ gives full (info H2) (counted (Some 258) (hex "BC")) full
    ∷ gives (taken H1 (enabled plain) ∷ []) (info H1) (counted (Some 7) five) (taken H1 (enabled plain) ∷ [])
    ∷ []

-- ---- PROFILE 5.8: empty, H1 with no hash, reserved, H3 with A and B, disabled with A and B, H2 with B
abbrev pub among : List Slot
among =
    empty
    ∷ taken H1 (enabled plain)
    ∷ taken H4 (reserved 5)
    ∷ taken H3 (enabled both)
    ∷ taken H1_last (disabled both)
    ∷ taken H2 (enabled only_b)
    ∷ []

-- a limit and the hashes asked for; whether there are more, and the handles
abbrev pub lists : ℕ → List Bytes → Bool → List Bytes → Case
lists limit q more hs = gives among (list limit q) (handles more hs) among

unfoldable pub listings : List Case
listings =
    -- the enabled records with one of the hashes sent, or all of them where none is sent, in the order of the slots and each once
    lists 0 [] false (H1 ∷ H3 ∷ H2 ∷ [])
    ∷ lists 0 (A ∷ []) false (H3 ∷ [])
    ∷ lists 0 (B ∷ []) false (H3 ∷ H2 ∷ [])
    ∷ lists 0 (A ∷ B ∷ []) false (H3 ∷ H2 ∷ [])
    ∷ lists 0 (B ∷ A ∷ []) false (H3 ∷ H2 ∷ [])
    ∷ lists 0 (A_last ∷ A_first ∷ A ∷ []) false (H3 ∷ [])
    ∷ lists 0 (A_last ∷ []) false []
    ∷ lists 0 (A_first ∷ []) false []
    ∷ lists 10 (A_first ∷ []) false []
    ∷ lists 1 (A_last ∷ []) false []
    ∷ lists 0 (pieces 20 8 eight) false []
    -- the last of eight hashes
    ∷ gives (taken H1 (enabled full8) ∷ []) (list 0 (A ∷ counting 0x9C 20 ∷ [])) (handles false (H1 ∷ [])) (taken H1 (enabled full8) ∷ [])
    -- as many whole handles as the limit lets through, and whether any was left off
    ∷ lists 1 [] true []
    ∷ lists 9 [] true []
    ∷ lists 10 [] true (H1 ∷ [])
    ∷ lists 19 [] true (H1 ∷ [])
    ∷ lists 20 [] true (H1 ∷ H3 ∷ [])
    ∷ lists 29 [] true (H1 ∷ H3 ∷ [])
    ∷ lists 30 [] false (H1 ∷ H3 ∷ H2 ∷ [])
    ∷ lists 31 [] false (H1 ∷ H3 ∷ H2 ∷ [])
    ∷ lists 256 [] false (H1 ∷ H3 ∷ H2 ∷ [])
    ∷ lists 19 (B ∷ []) true (H3 ∷ [])
    ∷ lists 20 (B ∷ []) false (H3 ∷ H2 ∷ [])
    ∷ lists 9 (A ∷ []) true []
    -- nothing at all to list
    ∷ gives (empty ∷ []) (list 5 []) (handles false []) (empty ∷ [])
    ∷ []

-- limits with fifteen handles: how many are given, and whether there are more
abbrev pub limits : List (ℕ × ℕ × Bool)
limits =
    (0, 15, false)
    ∷ (1, 0, true)
    ∷ (9, 0, true)
    ∷ (10, 1, true)
    ∷ (19, 1, true)
    ∷ (20, 2, true)
    ∷ (149, 14, true)
    ∷ (150, 15, false)
    ∷ (160, 15, false)
    ∷ (65535, 15, false)
    ∷ []

-- ---- a slot that is taken
abbrev pub busy : Slot
busy = taken H1 (reserved 5)

-- ---- the whole table, and that the definitions say the same
unfoldable pub cases : List Case
cases = joined (setups ∷ installations ∷ lendings ∷ others ∷ listings ∷ [])

pub record Hold : Type 0 where
  pub acts : map (λ c. act (first_empty_from 0 c.slots) c.slots c.request) cases ≡ map (λ c. c.answer) cases
  -- PROFILE 5.1: the lowest empty slot; with none empty, the number of slots
  pub lowest : map lowest_empty ([] ∷ full ∷ spare ∷ (empty ∷ full) ∷ (taken H1 (reserved 5) ∷ empty ∷ full) ∷ []) ≡ 0 ∷ 3 ∷ 3 ∷ 0 ∷ 1 ∷ []
  -- PROFILE 5.1: from every start of some slots: the first empty one at or after it, else the first one before it; with none empty, the number of slots
  pub of_blank : map (λ i. first_empty_from i (empty ∷ empty ∷ empty ∷ [])) (counting 0 3) ≡ 0 ∷ 1 ∷ 2 ∷ []
  pub of_mixed : map (λ i. first_empty_from i (busy ∷ empty ∷ busy ∷ busy ∷ empty ∷ busy ∷ [])) (counting 0 6) ≡ 1 ∷ 1 ∷ 4 ∷ 4 ∷ 4 ∷ 1 ∷ []
  pub of_lowest : map (λ i. first_empty_from i (empty ∷ full)) (counting 0 4) ≡ 0 ∷ 0 ∷ 0 ∷ 0 ∷ []
  pub of_highest : map (λ i. first_empty_from i spare) (counting 0 4) ≡ 3 ∷ 3 ∷ 3 ∷ 3 ∷ []
  pub of_full : map (λ i. first_empty_from i full) (counting 0 3) ≡ 3 ∷ 3 ∷ 3 ∷ []
  -- a setup takes the slot found
  pub from_2 : act (first_empty_from 2 (empty ∷ busy ∷ busy ∷ empty ∷ [])) (empty ∷ busy ∷ busy ∷ empty ∷ []) (setup H4 5) ≡ done nothing (empty ∷ busy ∷ busy ∷ taken H4 (reserved 5) ∷ [])
  pub from_last : act (first_empty_from 2 (empty ∷ empty ∷ busy ∷ [])) (empty ∷ empty ∷ busy ∷ []) (setup H4 5) ≡ done nothing (taken H4 (reserved 5) ∷ empty ∷ busy ∷ [])
  pub firsts : map (λ l. first_of l.0 (pieces 10 15 fifteen_handles)) limits ≡ map (λ l. handles l.2 (take l.1 (pieces 10 15 fifteen_handles))) limits
