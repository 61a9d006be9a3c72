-- PROFILE 2, in worked cases: which lengths and bytes make a table, and what the bytes of a slot say.
use Rattle.std.specs.Prelude.{ℕ, ◌≡◌, List, [], ◌∷◌, ◌++◌, map, Bool, true, false, replicate}
use Rattle.profile.specs.Bytes.{Bytes}
use Rattle.profile.specs.Slot.{None, Some, kept_bit, count_number, count_holds, count_with, raises, Right, right_with, recount, reserved, enabled, disabled, Slot, empty, taken, in_use, distinct}
use Rattle.profile.specs.Table.{place_of, hash_count_of, kept_of, spare_of, unpack, pack, slots_of, table_of, whole_slots, well_slot, well_table}
use Rattle.profile.specs.CaseBytes.{hex, changed, H0, H1, H2, H3, H1_last, H1_first, K, L, A, B, five}
use Rattle.profile.specs.CaseTables.{blank, after1, after7, after9, after11, counted7, lent7, used_up, bare, bare_lent, roomy, longest, hashed1, hashed2, lent2, hashed8, nameless, keyless, twins}

-- ---- PROFILE 2.1: lengths, and whether they are those of 1 to 15 slots
abbrev pub lengths : List (ℕ × Bool)
lengths =
    (0, false)
    ∷ (4287, false)
    ∷ (4288, true)
    ∷ (4289, false)
    ∷ (8576, true)
    ∷ (64320, true)
    ∷ []

-- ---- PROFILE 2.4: slots, and whether they are well formed: each rule broken alone, and what is just allowed
abbrev pub well : Bytes → Bytes × Bool
well t = (t, true)

abbrev pub ill : Bytes → Bytes × Bool
ill t = (t, false)

unfoldable pub shapes : List (Bytes × Bool)
shapes =
    -- the spare bit and byte 191
    ill (changed 0 0x41 after1)
    ∷ ill (changed 0 0x85 after7)
    ∷ ill (changed 0 0x81 bare)
    ∷ ill (changed 0 0xC5 after9)
    ∷ ill (changed 0 0x87 counted7)
    ∷ ill (changed 191 0x01 after1)
    ∷ ill (changed 191 0x80 after7)
    ∷ ill (changed 191 0x01 hashed8)
    -- at most 8 hashes
    ∷ well hashed8
    ∷ ill (changed 0 0xA6 hashed8)
    ∷ ill (changed 0 0xBE hashed8)
    -- zeros after the last hash
    ∷ well hashed2
    ∷ well lent2
    ∷ ill (changed 31 0x01 bare)
    ∷ ill (changed 190 0x01 bare)
    ∷ ill (changed 50 0x01 bare_lent)
    ∷ ill (changed 51 0x01 after7)
    ∷ ill (changed 190 0x01 after7)
    ∷ ill (changed 31 0x01 after1)
    ∷ ill (changed 51 0x01 hashed1)
    ∷ ill (changed 71 0x01 hashed2)
    ∷ ill (changed 0 0x86 hashed2)
    ∷ ill (changed 0 0x9E hashed8)
    -- zeros after the payload
    ∷ ill (changed 197 0x01 after7)
    ∷ ill (changed 4287 0x01 after7)
    ∷ ill (changed 30 0x04 after7)
    ∷ ill (changed 197 0x01 after9)
    ∷ ill (changed 29 0x0F (changed 30 0xFF longest))
    -- empty: all zeros
    ∷ well blank
    ∷ ill (changed 0 0x01 blank)
    ∷ ill (changed 0 0x02 blank)
    ∷ ill (changed 0 0x04 blank)
    ∷ ill (changed 1 0x01 blank)
    ∷ ill (changed 26 0x01 blank)
    ∷ ill (changed 30 0x01 blank)
    ∷ ill (changed 4287 0x01 blank)
    -- reserved: length 1 to 4,096, and zeros but for byte 0, handle and length
    ∷ well after1
    ∷ ill (changed 30 0x00 after1)
    ∷ well (changed 30 0x01 after1)
    ∷ well roomy
    ∷ ill (changed 30 0x01 roomy)
    ∷ ill (changed 0 0x42 after1)
    ∷ ill (changed 0 0x44 after1)
    ∷ ill (changed 0 0x60 after1)
    ∷ ill (changed 11 0x01 after1)
    ∷ ill (changed 26 0x01 after1)
    ∷ ill (changed 27 0x01 after1)
    ∷ ill (changed 28 0x01 after1)
    ∷ ill (changed 192 0x01 after1)
    ∷ ill (changed 4287 0x01 roomy)
    -- enabled or disabled: length 1 to 4,096
    ∷ ill (changed 192 0x00 (changed 30 0x00 hashed1))
    ∷ well hashed1
    ∷ well longest
    ∷ ill (changed 30 0x01 longest)
    ∷ ill (changed 192 0x00 (changed 30 0x00 lent2))
    ∷ well (changed 0 0xC6 longest)
    ∷ ill (changed 30 0x01 (changed 0 0xC6 longest))
    -- the bit of a count: 1 with every number, also 0; 0 with the number 0 alone
    ∷ well after7
    ∷ well after9
    ∷ well counted7
    ∷ well lent7
    ∷ well used_up
    ∷ well (changed 0 0xC6 after9)
    ∷ well (changed 27 0xFF (changed 28 0xFF counted7))
    ∷ ill (changed 0 0x84 counted7)
    ∷ ill (changed 0 0xC4 lent7)
    ∷ ill (changed 0 0xC8 lent2)
    ∷ ill (changed 27 0x01 after7)
    ∷ ill (changed 28 0x01 after9)
    -- PROFILE 2.9: no hash, enabled or disabled, with a count or without
    ∷ well bare
    ∷ well bare_lent
    ∷ well (changed 0 0x82 bare)
    ∷ well (changed 0 0xC2 bare_lent)
    -- PROFILE 2.6: a key of zeros; the same hash twice
    ∷ well keyless
    ∷ well twins
    ∷ []

-- ---- PROFILE 2.5: tables of several slots
unfoldable pub tables : List (Bytes × Bool)
tables =
    -- a slot that is not well formed: the last one, the first one
    ill (after7 ++ changed 4287 0x01 blank)
    ∷ ill (changed 191 0x01 after7 ++ blank)
    -- two slots with one handle
    ∷ ill (after1 ++ after7)
    ∷ ill (after9 ++ after11)
    -- but handles may differ in their last byte alone
    ∷ well (after7 ++ changed 10 0x02 after7)
    -- PROFILE 2.6: ten zeros are a handle: one beside an empty slot, but not two
    ∷ well (nameless ++ blank)
    ∷ ill (nameless ++ nameless)
    ∷ []

-- ---- PROFILE 2.5: the same of slots told without their bytes: whatever their places, and wherever they stand
abbrev pub plain : Right
plain = right_with K (Some 7) (A ∷ []) five

unfoldable pub handles : List (List Slot × Bool)
handles =
    ([], true)
    ∷ (empty ∷ empty ∷ [], true)
    ∷ (taken H1 (reserved 5) ∷ taken H2 (enabled plain) ∷ taken H3 (disabled plain) ∷ [], true)
    ∷ (taken H1 (enabled plain) ∷ taken H1_last (enabled plain) ∷ taken H1_first (enabled plain) ∷ [], true)
    ∷ (empty ∷ taken H0 (reserved 5) ∷ empty ∷ [], true)
    ∷ (taken H1 (reserved 5) ∷ taken H1 (enabled plain) ∷ [], false)
    ∷ (taken H1 (enabled plain) ∷ taken H1 (enabled plain) ∷ [], false)
    ∷ (taken H1 (disabled plain) ∷ taken H1 (enabled plain) ∷ [], false)
    ∷ (taken H1 (reserved 5) ∷ empty ∷ taken H1 (disabled plain) ∷ [], false)
    ∷ (taken H2 (enabled plain) ∷ taken H1 (reserved 5) ∷ taken H1 (reserved 5) ∷ [], false)
    ∷ (empty ∷ taken H0 (reserved 5) ∷ taken H0 (enabled plain) ∷ [], false)
    ∷ []

-- ---- PROFILE 2.2: bytes, and the slot that they are
unfoldable pub slots : List (Bytes × Slot)
slots =
    (blank, empty)
    ∷ (after1, taken H1 (reserved 5))
    ∷ (roomy, taken H1 (reserved 4096))
    ∷ (nameless, taken H0 (reserved 5))
    ∷ (after7, taken H1 (enabled (right_with K None (A ∷ []) five)))
    ∷ (after9, taken H2 (disabled (right_with K None (A ∷ []) five)))
    ∷ (counted7, taken H1 (enabled (right_with K (Some 7) (A ∷ []) five)))
    ∷ (lent7, taken H2 (disabled (right_with K (Some 7) (A ∷ []) five)))
    ∷ (used_up, taken H2 (enabled (right_with K (Some 0) (A ∷ []) five)))
    ∷ (bare, taken H1 (enabled (right_with K None [] five)))
    ∷ (bare_lent, taken H2 (disabled (right_with K None [] five)))
    ∷ (hashed1, taken H3 (enabled (right_with L (Some 258) (A ∷ []) (hex "BC"))))
    ∷ (hashed2, taken H3 (enabled (right_with L (Some 258) (A ∷ B ∷ []) (hex "BC"))))
    ∷ (lent2, taken H3 (disabled (right_with L (Some 258) (A ∷ B ∷ []) (hex "BC"))))
    ∷ (longest, taken H1 (enabled (right_with K (Some 7) (A ∷ []) (replicate 4096 0x5A))))
    ∷ []

-- ---- these are what the definitions say
pub record Hold : Type 0 where
  pub whole : map (λ c. whole_slots (replicate c.0 0)) lengths ≡ map (λ c. c.1) lengths
  pub slot_formed : map (λ c. well_slot c.0) shapes ≡ map (λ c. c.1) shapes
  pub table_formed : map (λ c. well_table c.0) tables ≡ map (λ c. c.1) tables
  pub apart : map (λ c. distinct c.0) handles ≡ map (λ c. c.1) handles
  -- a handle in use, whatever the place of its record
  pub in_use_lem : map (λ h. in_use h (taken H1 (reserved 5) ∷ empty ∷ taken H2 (enabled plain) ∷ taken H3 (disabled plain) ∷ [])) (H1 ∷ H2 ∷ H3 ∷ H1_last ∷ H0 ∷ [])
      ≡ true ∷ true ∷ true ∷ false ∷ false ∷ []
  -- a right with another count
  pub recounted : recount (Some 3) plain ≡ right_with K (Some 3) (A ∷ []) five
  -- PROFILE 2.6: a bit and a number: whether they say a count, which count they say, and how a count is said
  pub said : map (count_holds 0) (0 ∷ 1 ∷ 256 ∷ 65535 ∷ []) ++ map (count_holds 1) (0 ∷ 7 ∷ 65535 ∷ []) ≡ true ∷ false ∷ false ∷ false ∷ true ∷ true ∷ true ∷ []
  -- which counts raise one: fewer, as many, one more, none; of no count, none and a kept one
  pub raised : map (raises (Some 258)) (Some 0 ∷ Some 255 ∷ Some 258 ∷ Some 259 ∷ Some 65535 ∷ None ∷ []) ++ map (raises (Some 0)) (Some 0 ∷ Some 1 ∷ None ∷ []) ++ map (raises None) (None ∷ Some 0 ∷ Some 7 ∷ [])
      ≡ false ∷ false ∷ false ∷ true ∷ true ∷ true ∷ false ∷ true ∷ true ∷ false ∷ true ∷ true ∷ []
  pub says : count_with 0 0 ∷ count_with 1 0 ∷ count_with 1 7 ∷ [] ≡ None ∷ Some 0 ∷ Some 7 ∷ []
  pub bits : map kept_bit (None ∷ Some 0 ∷ Some 7 ∷ []) ≡ 0 ∷ 1 ∷ 1 ∷ []
  pub numbers : map count_number (None ∷ Some 0 ∷ Some 7 ∷ []) ≡ 0 ∷ 0 ∷ 7 ∷ []
  -- PROFILE 2.2, byte 0: place, hash count, the bit of a count, the spare bit
  pub places : map (λ b. place_of (b ∷ [])) (0x3F ∷ 0x40 ∷ 0x80 ∷ 0xC0 ∷ []) ≡ 0 ∷ 1 ∷ 2 ∷ 3 ∷ []
  pub counts : map (λ b. hash_count_of (b ∷ [])) (0xC3 ∷ 0x04 ∷ 0xE0 ∷ 0x3C ∷ []) ≡ 0 ∷ 1 ∷ 8 ∷ 15 ∷ []
  pub kept : map (λ b. kept_of (b ∷ [])) (0xFC ∷ 0x01 ∷ 0x82 ∷ 0xFF ∷ []) ≡ 0 ∷ 0 ∷ 1 ∷ 1 ∷ []
  pub spares : map (λ b. spare_of (b ∷ [])) (0xFC ∷ 0x01 ∷ 0x82 ∷ 0xFF ∷ []) ≡ 0 ∷ 1 ∷ 0 ∷ 1 ∷ []
  -- slots read, and written; tables of several slots too
  pub read : map (λ c. unpack c.0) slots ≡ map (λ c. c.1) slots
  pub written : map (λ c. pack c.1) slots ≡ map (λ c. c.0) slots
  pub reads : slots_of (after1 ++ blank ++ after7) ≡ map unpack (after1 ∷ blank ∷ after7 ∷ [])
  pub writes : table_of (unpack after1 ∷ unpack blank ∷ unpack after7 ∷ []) ≡ after1 ++ blank ++ after7
