-- PROFILE 6.3, in worked cases: replies, and what the reply reader says of them.
use Rattle.std.specs.Prelude.{ℕ, ◌≡◌, List, [], ◌∷◌, ◌++◌, map, true, false, take, replicate}
use Prim.Native.String.{String}
use Rattle.profile.specs.Bytes.{Bytes, joined}
use Rattle.profile.specs.Slot.{None, Some, right_with}
use Rattle.profile.specs.Frame.{integrity, parameter, unsupported, not_found, duplicate, unexpected, no_space, count_raised}
use Rattle.profile.specs.Agent.{nothing, the_right, the_key, handles, counted, deny, done, Answer, reply_frame}
use Rattle.profile.specs.Device.{Reply, malformed, failed, gave, read_reply, sent}
use Rattle.profile.specs.CaseBytes.{hex, counting, sized, h, n, key, p, q, eight, eight_hashes}

-- a reply frame, and what it is read as
abbrev pub Case : Type 0
Case = Bytes × Reply

-- 203
abbrev pub bad : Bytes → Case
bad f = (f, malformed)

-- a success of a kind that gives nothing
abbrev pub plain : ℕ → Bytes → Case
plain kind f = (f, gave kind nothing)

-- fifteen handles, one by one
abbrev pub fifteen : List Bytes
fifteen = map (λ i. i ∷ replicate 9 0x07) (counting 0x01 15)

-- ---- whole frames, of version 1, with a status of 0 to 7
unfoldable pub heads : List Case
heads =
    -- length
    bad []
    ∷ bad (hex "21")
    ∷ bad (hex "21 00 00")
    ∷ bad (hex "21 00 00 01")
    ∷ bad (hex "21 00 00 00 00")
    ∷ bad (hex "21 05 01 00")
    ∷ bad (hex "24 00 00 0F" ++ key)
    ∷ bad (hex "24 00 10 00" ++ key)
    -- version
    ∷ bad (hex "01 00 00 00")
    ∷ bad (hex "41 00 00 00")
    ∷ bad (hex "61 05 00 00")
    ∷ bad (hex "A1 00 00 00")
    -- status
    ∷ plain 1 (hex "21 00 00 00")
    ∷ (hex "21 01 00 00", failed 1 1)
    ∷ (hex "22 02 00 00", failed 2 2)
    ∷ (hex "23 03 00 00", failed 3 3)
    ∷ (hex "24 04 00 00", failed 4 4)
    ∷ (hex "25 05 00 00", failed 5 5)
    ∷ (hex "26 06 00 00", failed 6 6)
    ∷ (hex "27 07 00 00", failed 7 7)
    ∷ (hex "28 07 00 00", failed 8 7)
    ∷ (hex "29 01 00 00", failed 9 1)
    -- 8 is none, whatever the kind
    ∷ bad (hex "20 08 00 00")
    ∷ bad (hex "21 08 00 00")
    ∷ bad (hex "22 08 00 00")
    ∷ bad (hex "23 08 00 00")
    ∷ bad (hex "24 08 00 00")
    ∷ bad (hex "25 08 00 00")
    ∷ bad (hex "26 08 00 00")
    ∷ bad (hex "27 08 00 00")
    ∷ bad (hex "28 08 00 00")
    ∷ bad (hex "29 08 00 00")
    ∷ bad (hex "3F 08 00 00")
    -- 9 is one, whatever the kind; it has no body, and no bit of a count
    ∷ (hex "20 09 00 00", failed 0 9)
    ∷ (hex "21 09 00 00", failed 1 9)
    ∷ (hex "25 09 00 00", failed 5 9)
    ∷ (hex "29 09 00 00", failed 9 9)
    ∷ (hex "3F 09 00 00", failed 31 9)
    ∷ bad (hex "25 09 00 01 00")
    ∷ bad (hex "25 89 00 00")
    ∷ bad (hex "29 89 00 00")
    ∷ bad (hex "25 49 00 00")
    -- no other number is
    ∷ bad (hex "21 0A 00 00")
    ∷ bad (hex "21 0B 00 00")
    ∷ bad (hex "21 10 00 00")
    ∷ bad (hex "21 19 00 00")
    ∷ bad (hex "21 FF 00 00")
    -- the bit of a count beside a status, and in the success of a kind that gives none, known or not
    ∷ bad (hex "21 81 00 00")
    ∷ bad (hex "23 84 00 00")
    ∷ bad (hex "29 86 00 00")
    ∷ bad (hex "3F 82 00 00")
    ∷ bad (hex "29 88 00 00")
    ∷ bad (hex "21 80 00 00")
    ∷ bad (hex "22 80 00 00")
    ∷ bad (hex "25 80 00 00")
    ∷ bad (hex "26 80 00 00")
    ∷ bad (hex "27 80 00 00")
    ∷ bad (hex "24 80 00 10" ++ key)
    ∷ bad (hex "28 80 00 01 00")
    ∷ bad (hex "20 80 00 00")
    ∷ bad (hex "2A 80 00 00")
    -- a body is refused where the status is not 0
    ∷ bad (hex "21 05 00 01 00")
    ∷ bad (hex "24 04 00 10" ++ key)
    ∷ bad (hex "28 07 00 01 00")
    -- only kinds 1 to 9 succeed; refusals of other kinds are read
    ∷ bad (hex "20 00 00 00")
    ∷ bad (hex "2A 00 00 00")
    ∷ bad (hex "3F 00 00 00")
    ∷ (hex "20 03 00 00", failed 0 3)
    ∷ (hex "2A 03 00 00", failed 10 3)
    ∷ (hex "3F 02 00 00", failed 31 2)
    ∷ []

-- ---- the shape of the body at success, by kind
unfoldable pub shapes : List Case
shapes =
    -- 1, 2, 5, 6, 7: no body
    plain 2 (hex "22 00 00 00")
    ∷ plain 5 (hex "25 00 00 00")
    ∷ plain 6 (hex "26 00 00 00")
    ∷ plain 7 (hex "27 00 00 00")
    ∷ bad (hex "21 00 00 01 00")
    ∷ bad (hex "22 00 00 01 00")
    ∷ bad (hex "25 00 00 01 00")
    ∷ bad (hex "26 00 00 01 00")
    ∷ bad (hex "27 00 00 01 00")
    -- 4: the key
    ∷ (hex "24 00 00 10" ++ key, gave 4 (the_key key))
    ∷ bad (hex "24 00 00 0F" ++ take 15 key)
    ∷ bad (hex "24 00 00 11" ++ key ++ hex "00")
    ∷ bad (hex "24 00 00 00")
    -- 9: a count, and a payload of 1 to 4,096 bytes
    ∷ (hex "29 80 00 03 31 32 51", gave 9 (counted (Some 0x3132) (hex "51")))
    ∷ (hex "29 80 00 04 00 07 51 52", gave 9 (counted (Some 7) (hex "51 52")))
    ∷ (hex "29 80 00 03 00 00 51", gave 9 (counted (Some 0) (hex "51")))
    ∷ (hex "29 00 00 03 00 00 51", gave 9 (counted None (hex "51")))
    ∷ bad (hex "29 00 00 03 00 01 51")
    ∷ bad (hex "29 00 00 03 01 00 51")
    ∷ (sized "29 80" (hex "31 32" ++ replicate 4096 0x5A), gave 9 (counted (Some 0x3132) (replicate 4096 0x5A)))
    ∷ bad (sized "29 80" (hex "31 32" ++ replicate 4097 0x5A))
    ∷ bad (hex "29 80 00 02 31 32")
    ∷ bad (hex "29 80 00 01 31")
    ∷ bad (hex "29 00 00 00")
    -- 8: zero bits, and 0 to 15 handles, the last one complete
    ∷ (hex "28 00 00 01 00", gave 8 (handles false []))
    ∷ (hex "28 00 00 01 80", gave 8 (handles true []))
    ∷ (hex "28 00 00 0B 00" ++ h, gave 8 (handles false (h ∷ [])))
    ∷ (hex "28 00 00 15 80" ++ h ++ n, gave 8 (handles true (h ∷ n ∷ [])))
    ∷ (hex "28 00 00 97 00" ++ joined fifteen, gave 8 (handles false fifteen))
    ∷ bad (hex "28 00 00 A1 00" ++ joined fifteen ++ h)
    ∷ bad (hex "28 00 00 00")
    ∷ bad (hex "28 00 00 01 01")
    ∷ bad (hex "28 00 00 01 40")
    ∷ bad (hex "28 00 00 0B 81" ++ h)
    ∷ bad (hex "28 00 00 0A 00" ++ take 9 h)
    ∷ bad (hex "28 00 00 0C 00" ++ h ++ hex "00")
    ∷ bad (hex "28 00 00 02 00 01")
    ∷ []

-- 3: at most 8 hashes, the low half of the hash byte 0, a payload of 1 to 4,096 bytes; key, count and hash byte first
abbrev pub right : String → Bytes → Bytes
right middle rest = sized "23 80" (key ++ hex middle ++ rest)

abbrev pub gives_right : List Bytes → Bytes → Reply
gives_right hs payload = gave 3 (the_right (right_with key (Some 0x3132) hs payload))

unfoldable pub rights : List Case
rights =
    (hex "23 80 00 14" ++ key ++ hex "31 32 00 51", gives_right [] (hex "51"))
    ∷ (hex "23 80 00 29" ++ key ++ hex "31 32 10" ++ p ++ hex "51 52", gives_right (p ∷ []) (hex "51 52"))
    ∷ (right "31 32 20" (p ++ q ++ hex "51"), gives_right (p ∷ q ∷ []) (hex "51"))
    ∷ (right "31 32 80" (eight ++ hex "51"), gives_right eight_hashes (hex "51"))
    ∷ bad (right "31 32 90" (eight ++ p ++ hex "51"))
    ∷ bad (right "31 32 01" (hex "51"))
    ∷ bad (right "31 32 08" (hex "51"))
    ∷ bad (right "31 32 14" (p ++ hex "51"))
    ∷ bad (right "31 32 00" [])
    ∷ bad (right "31 32 10" p)
    ∷ bad (right "31 32 10" (take 19 p))
    ∷ bad (right "31 32 80" eight)
    ∷ (right "31 32 00" (replicate 4096 0x5A), gives_right [] (replicate 4096 0x5A))
    ∷ bad (right "31 32 00" (replicate 4097 0x5A))
    ∷ (right "31 32 80" (eight ++ replicate 4096 0x5A), gives_right eight_hashes (replicate 4096 0x5A))
    ∷ bad (right "31 32 80" (eight ++ replicate 4097 0x5A))
    ∷ bad (hex "23 80 00 12" ++ key ++ hex "31 32")
    ∷ bad (hex "23 00 00 00")
    -- no count kept, and a kept count of 0; a count that is not 0 without its bit
    ∷ (hex "23 00 00 14" ++ key ++ hex "00 00 00 51", gave 3 (the_right (right_with key None [] (hex "51"))))
    ∷ (hex "23 80 00 14" ++ key ++ hex "00 00 00 51", gave 3 (the_right (right_with key (Some 0) [] (hex "51"))))
    ∷ bad (hex "23 00 00 14" ++ key ++ hex "00 01 00 51")
    ∷ bad (hex "23 00 00 14" ++ key ++ hex "01 00 00 51")
    ∷ []

-- ---- PROFILE 6.4: answers: their frames, and what the reader has of them
unfoldable pub answers : List (ℕ × Answer × Bytes)
answers =
    (1, deny integrity, hex "21 01 00 00")
    ∷ (2, deny parameter, hex "22 02 00 00")
    ∷ (10, deny unsupported, hex "2A 03 00 00")
    ∷ (4, deny not_found, hex "24 04 00 00")
    ∷ (3, deny duplicate, hex "23 05 00 00")
    ∷ (5, deny unexpected, hex "25 06 00 00")
    ∷ (1, deny no_space, hex "21 07 00 00")
    ∷ (5, deny count_raised, hex "25 09 00 00")
    ∷ (7, done nothing [], hex "27 00 00 00")
    ∷ (3, done (the_right (right_with key (Some 0x3132) (p ∷ q ∷ []) (hex "51 52"))) [], hex "23 80 00 3D" ++ key ++ hex "31 32 20" ++ p ++ q ++ hex "51 52")
    ∷ (3, done (the_right (right_with key (Some 0) [] (hex "51"))) [], hex "23 80 00 14" ++ key ++ hex "00 00 00 51")
    ∷ (3, done (the_right (right_with key None [] (hex "51"))) [], hex "23 00 00 14" ++ key ++ hex "00 00 00 51")
    ∷ (4, done (the_key key) [], hex "24 00 00 10" ++ key)
    ∷ (8, done (handles true (h ∷ n ∷ [])) [], hex "28 00 00 15 80" ++ h ++ n)
    ∷ (8, done (handles false (h ∷ [])) [], hex "28 00 00 0B 00" ++ h)
    ∷ (9, done (counted (Some 0x3132) (hex "51 52")) [], hex "29 80 00 04 31 32 51 52")
    ∷ (9, done (counted (Some 0) (hex "51")) [], hex "29 80 00 03 00 00 51")
    ∷ (9, done (counted None (hex "51")) [], hex "29 00 00 03 00 00 51")
    ∷ []

-- ---- the whole table: it is what the reader says; and answers are sent as these frames, and read as what was sent
unfoldable pub cases : List Case
cases = heads ++ shapes ++ rights

pub record Hold : Type 0 where
  pub read : map (λ c. read_reply c.0) cases ≡ map (λ c. c.1) cases
  pub send : map (λ a. reply_frame a.0 a.1) answers ≡ map (λ a. a.2) answers
  pub back : map (λ a. read_reply a.2) answers ≡ map (λ a. sent a.0 a.1) answers
