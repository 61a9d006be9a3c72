-- PROFILE 2.7, in worked cases: slots from before counts had their bit, what they hold, and tables turned.
use Rattle.std.specs.Prelude.{ℕ, ◌≡◌, List, [], ◌∷◌, ◌++◌, map, Bool, true, false, replicate}
use Rattle.profile.specs.Bytes.{Bytes}
use Rattle.profile.specs.Slot.{None, Some, right_with, reserved, enabled, disabled, Slot, empty, taken}
use Rattle.profile.specs.Turning.{well_before, unpack_before, turn_slot, Turned, turn, keeps_count}
use Rattle.profile.specs.CaseBytes.{hex, changed, H1, H2, H3, H4, K, L, A, B, five}
use Rattle.profile.specs.CaseTables.{blank, after1, after7, after9, counted7, lent7, used_up, bare, hashed2, hashed8, longest, waiting}

-- ---- slots as they were: byte 0 without the bit, whatever the count
abbrev pub old7 : Bytes
old7 = changed 0 0x84 counted7

abbrev pub old_lent7 : Bytes
old_lent7 = changed 0 0xC4 lent7

abbrev pub old2 : Bytes
old2 = changed 0 0x88 hashed2

abbrev pub old8 : Bytes
old8 = changed 0 0xA0 hashed8

-- without a hash
abbrev pub old_bare : Bytes
old_bare = changed 28 0x07 bare

-- with a count whose low byte is 0
abbrev pub old_high : Bytes
old_high = changed 27 0x01 (changed 28 0x00 old7)

-- ---- slots, and whether they were well formed
unfoldable pub shapes : List (Bytes × Bool)
shapes =
    (blank, true)
    ∷ (after1, true)
    ∷ (after7, true)
    ∷ (after9, true)
    ∷ (old7, true)
    ∷ (old_lent7, true)
    ∷ (old2, true)
    ∷ (old8, true)
    ∷ (bare, true)
    ∷ (old_bare, true)
    -- either of the two spare bits
    ∷ (counted7, false)
    ∷ (used_up, false)
    ∷ (changed 0 0x85 old7, false)
    ∷ (changed 0 0x42 after1, false)
    ∷ (changed 0 0x02 blank, false)
    -- the rules that stay: hashes, the byte before the payload, zeros, lengths, a reservation's count
    ∷ (changed 0 0xA4 old8, false)
    ∷ (changed 191 0x01 old7, false)
    ∷ (changed 197 0x01 old7, false)
    ∷ (changed 30 0x00 (changed 192 0x00 old2), false)
    ∷ (changed 28 0x01 after1, false)
    ∷ (changed 27 0x01 blank, false)
    ∷ []

-- ---- slots, and what they held: a count of 0 was none
unfoldable pub slots : List (Bytes × Slot)
slots =
    (blank, empty)
    ∷ (after1, taken H1 (reserved 5))
    ∷ (after7, taken H1 (enabled (right_with K None (A ∷ []) five)))
    ∷ (after9, taken H2 (disabled (right_with K None (A ∷ []) five)))
    ∷ (old7, taken H1 (enabled (right_with K (Some 7) (A ∷ []) five)))
    ∷ (old_high, taken H1 (enabled (right_with K (Some 256) (A ∷ []) five)))
    ∷ (old_lent7, taken H2 (disabled (right_with K (Some 7) (A ∷ []) five)))
    ∷ (old_bare, taken H1 (enabled (right_with K (Some 7) [] five)))
    ∷ (old2, taken H3 (enabled (right_with L (Some 258) (A ∷ B ∷ []) (hex "BC"))))
    ∷ []

-- ---- tables, the number, and the table afterwards
abbrev pub gives : Bytes → Bytes → Bytes × Turned
gives t u = (t, record { number = 0; table = u })

abbrev pub refuses : Bytes → ℕ → Bytes × Turned
refuses t n = (t, record { number = n; table = t })

unfoldable pub tables : List (Bytes × Turned)
tables =
    -- each slot by itself: with a count and without, empty and reserved ones
    gives old7 counted7
    ∷ gives old_high (changed 0 0x86 old_high)
    ∷ gives old_bare (changed 0 0x82 old_bare)
    ∷ gives (old_lent7 ++ blank ++ old2 ++ waiting) (lent7 ++ blank ++ hashed2 ++ waiting)
    ∷ gives (changed 0 0x84 longest) longest
    -- a table without a count stays as it is, and may be turned again
    ∷ gives (after7 ++ after9 ++ waiting) (after7 ++ after9 ++ waiting)
    ∷ gives blank blank
    -- 102 by its length, before 103
    ∷ refuses [] 102
    ∷ refuses (replicate 4287 0) 102
    ∷ refuses (0x02 ∷ old7) 102
    ∷ refuses (replicate 68608 0) 102
    -- 103: a table that was turned and has a kept count, used up or not; a slot that was not well formed; two slots with one handle
    ∷ refuses counted7 103
    ∷ refuses (old2 ++ used_up) 103
    ∷ refuses (old7 ++ changed 4287 0x01 blank) 103
    ∷ refuses (changed 0 0x42 after1) 103
    ∷ refuses (old7 ++ after7) 103
    ∷ []

-- ---- these are what the definitions say
pub record Hold : Type 0 where
  pub formed : map (λ c. well_before c.0) shapes ≡ map (λ c. c.1) shapes
  pub held : map (λ c. unpack_before c.0) slots ≡ map (λ c. c.1) slots
  pub turned : map (λ c. turn c.0) tables ≡ map (λ c. c.1) tables
  -- only byte 0 of a slot with a count changes
  pub bytes : map turn_slot (old7 ∷ old_lent7 ∷ after7 ∷ blank ∷ []) ≡ counted7 ∷ lent7 ∷ after7 ∷ blank ∷ []
  -- which slots keep a count
  pub keeps : map keeps_count (empty ∷ taken H1 (reserved 5) ∷ taken H1 (enabled (right_with K None [] five)) ∷ taken H1 (enabled (right_with K (Some 0) [] five)) ∷ taken H4 (disabled (right_with K (Some 7) [] five)) ∷ [])
      ≡ false ∷ false ∷ false ∷ true ∷ true ∷ []
