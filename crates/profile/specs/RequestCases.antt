-- PROFILE 3.3, 4.3 and 6.1, in worked cases: frames, and what they are read as.
use Prim.Native.String.{String}
use Rattle.std.specs.Prelude.{◌≡◌, List, [], ◌∷◌, ◌++◌, map, ℕ, Bool, true, false, take, replicate}
use Rattle.profile.specs.Bytes.{Bytes, joined}
use Rattle.profile.specs.Slot.{None, Some, right_with}
use Rattle.profile.specs.Frame.{Kind, setup_kind, install_kind, retrieve_kind, rek_kind, enable_kind, remove_kind, cancel_kind, list_kind, info_kind, version_holds, kind_number, hash_count_at18, Refusal, integrity, parameter, unsupported}
use Rattle.profile.specs.Request.{Request, setup, install, retrieve, rek, enable, remove, cancel, list, info}
use Rattle.profile.specs.Request.{Read, asks, refused, no_frame, verdict, kept_asked, zero_bits, body_fits, sends_hash, read_request, write_request}
use Rattle.profile.specs.CaseBytes.{hex, sized, h, n, key, p, q, eight, eight_hashes}

-- a frame, and what it is read as
abbrev pub Case : Type 0
Case = Bytes × Read

abbrev pub reads : Bytes → Request → Case
reads f q = (f, asks q)

abbrev pub refuses : Bytes → Refusal → Case
refuses f r = (f, refused r)

-- kind 2: first two bytes; count, hash count and zero bits; hashes and payload
abbrev pub right : String → String → Bytes → Bytes
right head middle rest = sized head (h ++ key ++ hex middle ++ rest)

-- ---- PROFILE 3.3: the fields of each kind
unfoldable pub requests : List Case
requests =
    reads (hex "21 80 00 0C" ++ h ++ hex "31 32") (setup h 0x3132)
    ∷ reads (hex "22 C0 00 32" ++ h ++ key ++ hex "31 32 10" ++ p ++ hex "51") (install h (right_with key (Some 0x3132) (p ∷ []) (hex "51")))
    ∷ reads (hex "22 C0 00 33" ++ h ++ key ++ hex "31 32 10" ++ p ++ hex "51 52") (install h (right_with key (Some 0x3132) (p ∷ []) (hex "51 52")))
    ∷ reads (hex "22 80 00 47" ++ h ++ key ++ hex "00 00 20" ++ p ++ q ++ hex "00 52") (install h (right_with key None (p ∷ q ∷ []) (hex "00 52")))
    ∷ reads (hex "22 C0 00 32" ++ h ++ key ++ hex "00 00 10" ++ p ++ hex "51") (install h (right_with key (Some 0) (p ∷ []) (hex "51")))
    ∷ reads (hex "23 80 00 14" ++ h ++ n) (retrieve h n)
    ∷ reads (hex "24 80 00 14" ++ h ++ n) (rek h n)
    ∷ reads (hex "25 C0 00 0C" ++ h ++ hex "31 32") (enable h (Some 0x3132))
    ∷ reads (hex "25 C0 00 0C" ++ h ++ hex "00 00") (enable h (Some 0))
    ∷ reads (hex "25 80 00 0C" ++ h ++ hex "00 00") (enable h None)
    ∷ reads (hex "26 80 00 0A" ++ h) (remove h)
    ∷ reads (hex "27 80 00 0A" ++ h) (cancel h)
    ∷ reads (hex "28 80 00 03 31 32 00") (list 0x3132 [])
    ∷ reads (hex "28 80 00 17 31 32 01" ++ p) (list 0x3132 (p ∷ []))
    ∷ reads (hex "28 80 00 2B 00 00 02" ++ p ++ q) (list 0 (p ∷ q ∷ []))
    ∷ reads (hex "29 80 00 0A" ++ h) (info h)
    -- setups of length 0 and of the greatest length are read here: the agent refuses them
    ∷ reads (hex "21 80 00 0C" ++ h ++ hex "00 00") (setup h 0)
    ∷ reads (hex "21 80 00 0C" ++ h ++ hex "FF FF") (setup h 65535)
    ∷ []

-- ---- PROFILE 4.1: 104, before all else
unfoldable pub no_frames : List Case
no_frames =
    ([], no_frame)
    ∷ (hex "21", no_frame)
    ∷ (hex "41 81", no_frame)
    ∷ (hex "2A 80 00", no_frame)
    ∷ (hex "26 80 00 0A" ++ h ++ hex "00", no_frame)
    ∷ (hex "26 80 00 0A" ++ take 9 h, no_frame)
    ∷ (hex "46 81 00 0B" ++ h, no_frame)
    ∷ (hex "2A 00 00 01", no_frame)
    ∷ (hex "2A 80 00 00 00", no_frame)
    ∷ (hex "2A 80 01 00", no_frame)
    ∷ (hex "2A 80 00 01" ++ replicate 256 0x00, no_frame)
    ∷ refuses (hex "2A 80 01 00" ++ replicate 256 0x00) unsupported
    ∷ refuses (hex "2A 80 00 00") unsupported
    ∷ []

-- ---- PROFILE 4.3: each other version, each zero bit; before kind, length, verdict and fields
unfoldable pub heads : List Case
heads =
    refuses (hex "06 80 00 0A" ++ h) parameter
    ∷ refuses (hex "46 80 00 0A" ++ h) parameter
    ∷ refuses (hex "66 80 00 0A" ++ h) parameter
    ∷ refuses (hex "86 80 00 0A" ++ h) parameter
    ∷ refuses (hex "A6 80 00 0A" ++ h) parameter
    ∷ refuses (hex "C6 80 00 0A" ++ h) parameter
    ∷ refuses (hex "E6 80 00 0A" ++ h) parameter
    ∷ refuses (hex "26 81 00 0A" ++ h) parameter
    ∷ refuses (hex "26 82 00 0A" ++ h) parameter
    ∷ refuses (hex "26 84 00 0A" ++ h) parameter
    ∷ refuses (hex "26 88 00 0A" ++ h) parameter
    ∷ refuses (hex "26 90 00 0A" ++ h) parameter
    ∷ refuses (hex "26 A0 00 0A" ++ h) parameter
    ∷ refuses (hex "26 C0 00 0A" ++ h) parameter
    ∷ refuses (hex "06 00 00 0A" ++ h) parameter
    ∷ refuses (hex "26 01 00 0A" ++ h) parameter
    ∷ refuses (hex "26 40 00 0A" ++ h) parameter
    ∷ refuses (hex "48 80 00 03 00 00 00") parameter
    ∷ refuses (hex "28 01 00 03 00 00 00") parameter
    ∷ refuses (hex "29 40 00 0A" ++ h) parameter
    ∷ refuses (hex "0A 80 00 00") parameter
    ∷ refuses (hex "4A 80 00 00") parameter
    ∷ refuses (hex "2A 81 00 00") parameter
    ∷ refuses (hex "20 C0 00 00") parameter
    -- the bit of a count in each kind that sends none, known or not; and before the verdict, and before an unknown kind
    ∷ refuses (hex "21 C0 00 0C" ++ h ++ hex "31 32") parameter
    ∷ refuses (hex "23 C0 00 14" ++ h ++ n) parameter
    ∷ refuses (hex "24 C0 00 14" ++ h ++ n) parameter
    ∷ refuses (hex "27 C0 00 0A" ++ h) parameter
    ∷ refuses (hex "28 C0 00 03 00 00 00") parameter
    ∷ refuses (hex "29 C0 00 0A" ++ h) parameter
    ∷ refuses (hex "21 40 00 0C" ++ h ++ hex "31 32") parameter
    ∷ refuses (hex "2A C0 00 00") parameter
    ∷ refuses (hex "3F 40 00 00") parameter
    -- each of the six zero bits of kinds 2 and 5
    ∷ refuses (hex "22 81 00 32" ++ h ++ key ++ hex "00 00 10" ++ p ++ hex "51") parameter
    ∷ refuses (hex "22 E0 00 32" ++ h ++ key ++ hex "00 00 10" ++ p ++ hex "51") parameter
    ∷ refuses (hex "25 C1 00 0C" ++ h ++ hex "31 32") parameter
    ∷ refuses (hex "25 82 00 0C" ++ h ++ hex "00 00") parameter
    ∷ refuses (hex "25 C4 00 0C" ++ h ++ hex "31 32") parameter
    ∷ refuses (hex "25 88 00 0C" ++ h ++ hex "00 00") parameter
    ∷ refuses (hex "25 D0 00 0C" ++ h ++ hex "31 32") parameter
    ∷ refuses (hex "25 A0 00 0C" ++ h ++ hex "00 00") parameter
    ∷ refuses (hex "25 20 00 0C" ++ h ++ hex "00 00") parameter
    ∷ []

-- ---- PROFILE 4.3: an unknown kind, whatever the body, and whatever the verdict
unfoldable pub kinds : List Case
kinds =
    refuses (hex "20 80 00 00") unsupported
    ∷ refuses (hex "20 80 00 0C" ++ h ++ hex "00 05") unsupported
    ∷ refuses (hex "20 00 00 0A" ++ h) unsupported
    ∷ refuses (hex "2A 80 00 0A" ++ h) unsupported
    ∷ refuses (hex "2A 00 00 00") unsupported
    ∷ refuses (hex "2B 80 00 0A" ++ h) unsupported
    ∷ refuses (hex "2F 80 00 00") unsupported
    ∷ refuses (hex "30 80 00 0A" ++ h) unsupported
    ∷ refuses (hex "31 80 00 0C" ++ h ++ hex "00 05") unsupported
    ∷ refuses (hex "3F 80 00 0A" ++ h) unsupported
    ∷ []

-- ---- PROFILE 4.3: a body of one byte less and one more than the kind's, before the verdict
unfoldable pub lengths : List Case
lengths =
    refuses (hex "21 80 00 0B" ++ h ++ hex "00") parameter
    ∷ refuses (hex "21 80 00 0D" ++ h ++ hex "00 05 00") parameter
    ∷ refuses (hex "21 00 00 0B" ++ h ++ hex "00") parameter
    ∷ refuses (hex "22 80 00 1D" ++ h ++ key ++ hex "31 32 00") parameter
    ∷ refuses (hex "22 00 00 1D" ++ h ++ key ++ hex "31 32 00") parameter
    ∷ refuses (hex "22 80 00 1C" ++ h ++ key ++ hex "31 32") parameter
    ∷ refuses (hex "22 40 00 1D" ++ h ++ key ++ hex "31 32 00") parameter
    ∷ refuses (hex "23 80 00 13" ++ h ++ take 9 n) parameter
    ∷ refuses (hex "23 80 00 15" ++ h ++ n ++ hex "00") parameter
    ∷ refuses (hex "23 00 00 15" ++ h ++ n ++ hex "00") parameter
    ∷ refuses (hex "24 80 00 13" ++ h ++ take 9 n) parameter
    ∷ refuses (hex "24 80 00 15" ++ h ++ n ++ hex "00") parameter
    ∷ refuses (hex "24 00 00 13" ++ h ++ take 9 n) parameter
    ∷ refuses (hex "25 80 00 0B" ++ h ++ hex "00") parameter
    ∷ refuses (hex "25 80 00 0D" ++ h ++ hex "00 05 00") parameter
    ∷ refuses (hex "25 00 00 0D" ++ h ++ hex "00 05 00") parameter
    ∷ refuses (hex "26 80 00 09" ++ take 9 h) parameter
    ∷ refuses (hex "26 80 00 0B" ++ h ++ hex "00") parameter
    ∷ refuses (hex "26 00 00 00") parameter
    ∷ refuses (hex "27 80 00 09" ++ take 9 h) parameter
    ∷ refuses (hex "27 80 00 0B" ++ h ++ hex "00") parameter
    ∷ refuses (hex "27 00 00 0B" ++ h ++ hex "00") parameter
    ∷ refuses (hex "28 80 00 02 00 00") parameter
    ∷ refuses (hex "28 80 00 00") parameter
    ∷ refuses (hex "29 80 00 09" ++ take 9 h) parameter
    ∷ refuses (hex "29 80 00 0B" ++ h ++ hex "00") parameter
    ∷ []

-- ---- PROFILE 4.3: verdict 0 in kinds 1 to 7, before the fields of kinds 2 and 5, a missing hash among them; kinds 8 and 9 are read
unfoldable pub verdicts : List Case
verdicts =
    refuses (hex "21 00 00 0C" ++ h ++ hex "00 05") integrity
    ∷ refuses (hex "21 00 00 0C" ++ h ++ hex "00 00") integrity
    ∷ refuses (hex "22 00 00 1E" ++ h ++ key ++ hex "31 32 00 51") integrity
    ∷ refuses (hex "22 00 00 32" ++ h ++ key ++ hex "00 00 10" ++ p ++ hex "51") integrity
    ∷ refuses (hex "22 00 00 1E" ++ h ++ key ++ hex "31 32 91 51") integrity
    ∷ refuses (right "22 00" "31 32 00" (replicate 4097 0x5A)) integrity
    ∷ refuses (hex "23 00 00 14" ++ h ++ n) integrity
    ∷ refuses (hex "24 00 00 14" ++ h ++ n) integrity
    ∷ refuses (hex "22 40 00 1E" ++ h ++ key ++ hex "31 32 00 51") integrity
    ∷ refuses (hex "25 00 00 0C" ++ h ++ hex "31 32") integrity
    ∷ refuses (hex "25 40 00 0C" ++ h ++ hex "31 32") integrity
    ∷ refuses (hex "26 00 00 0A" ++ h) integrity
    ∷ refuses (hex "27 00 00 0A" ++ h) integrity
    ∷ reads (hex "28 00 00 17 31 32 01" ++ p) (list 0x3132 (p ∷ []))
    ∷ refuses (hex "28 00 00 03 00 00 01") parameter
    ∷ reads (hex "29 00 00 0A" ++ h) (info h)
    ∷ []

-- ---- PROFILE 5.2, 5.5 and 5.8: the field tests
unfoldable pub field_tests : List Case
field_tests =
    -- no hash, whatever follows: a body of 30 bytes, one as long as with a hash, one with 4,096 bytes of payload
    refuses (right "22 C0" "31 32 00" (hex "51")) parameter
    ∷ refuses (right "22 80" "00 00 00" (hex "51 52 53 54 55")) parameter
    ∷ refuses (right "22 C0" "31 32 00" (p ++ hex "51")) parameter
    ∷ refuses (right "22 C0" "31 32 00" (replicate 4096 0x5A)) parameter
    -- 8 hashes, and more
    ∷ reads (right "22 C0" "31 32 80" (eight ++ hex "51")) (install h (right_with key (Some 0x3132) eight_hashes (hex "51")))
    ∷ refuses (right "22 C0" "31 32 90" (eight ++ p ++ hex "51")) parameter
    ∷ refuses (right "22 C0" "31 32 F0" (eight ++ eight ++ hex "51")) parameter
    -- the low half of the hash byte: each bit
    ∷ refuses (right "22 C0" "31 32 11" (p ++ hex "51 52")) parameter
    ∷ refuses (right "22 C0" "31 32 12" (p ++ hex "51 52")) parameter
    ∷ refuses (right "22 C0" "31 32 14" (p ++ hex "51 52")) parameter
    ∷ refuses (right "22 C0" "31 32 18" (p ++ hex "51 52")) parameter
    ∷ refuses (right "22 C0" "31 32 01" (hex "51 52")) parameter
    -- the payload: none, one byte, and hashes that overrun the body
    ∷ refuses (right "22 C0" "31 32 10" p) parameter
    ∷ reads (right "22 C0" "31 32 10" (p ++ hex "51")) (install h (right_with key (Some 0x3132) (p ∷ []) (hex "51")))
    ∷ refuses (right "22 C0" "31 32 20" (p ++ take 19 q)) parameter
    ∷ refuses (right "22 C0" "31 32 80" eight) parameter
    ∷ refuses (right "22 C0" "31 32 10" (hex "51")) parameter
    -- 4,096 and 4,097 bytes
    ∷ reads (right "22 C0" "31 32 10" (p ++ replicate 4096 0x5A)) (install h (right_with key (Some 0x3132) (p ∷ []) (replicate 4096 0x5A)))
    ∷ refuses (right "22 C0" "31 32 10" (p ++ replicate 4097 0x5A)) parameter
    ∷ reads (right "22 C0" "31 32 80" (eight ++ replicate 4096 0x5A)) (install h (right_with key (Some 0x3132) eight_hashes (replicate 4096 0x5A)))
    ∷ refuses (right "22 C0" "31 32 80" (eight ++ replicate 4097 0x5A)) parameter
    -- a count that is not 0 without its bit, in kinds 2 and 5; with the number 0 none is kept, and with the bit every number is one
    ∷ refuses (right "22 80" "00 01 10" (p ++ hex "51")) parameter
    ∷ refuses (right "22 80" "01 00 10" (p ++ hex "51")) parameter
    ∷ reads (right "22 80" "00 00 10" (p ++ hex "51")) (install h (right_with key None (p ∷ []) (hex "51")))
    ∷ reads (right "22 C0" "FF FF 10" (p ++ hex "51")) (install h (right_with key (Some 65535) (p ∷ []) (hex "51")))
    ∷ refuses (hex "25 80 00 0C" ++ h ++ hex "00 01") parameter
    ∷ refuses (hex "25 80 00 0C" ++ h ++ hex "01 00") parameter
    ∷ refuses (hex "25 80 00 0C" ++ h ++ hex "FF FF") parameter
    ∷ reads (hex "25 C0 00 0C" ++ h ++ hex "FF FF") (enable h (Some 65535))
    -- kind 8: 8 hashes, and more; a body that does not end with its last hash
    ∷ reads (sized "28 80" (hex "01 00 08" ++ eight)) (list 256 eight_hashes)
    ∷ refuses (sized "28 80" (hex "01 00 09" ++ eight ++ p)) parameter
    ∷ refuses (sized "28 80" (hex "01 00 80" ++ eight)) parameter
    ∷ refuses (hex "28 80 00 04 00 00 00 00") parameter
    ∷ refuses (hex "28 80 00 16 00 00 01" ++ take 19 p) parameter
    ∷ refuses (hex "28 80 00 18 00 00 01" ++ p ++ hex "00") parameter
    ∷ refuses (hex "28 80 00 17 00 00 00" ++ p) parameter
    ∷ refuses (hex "28 80 00 17 00 00 02" ++ p) parameter
    ∷ []

-- ---- the whole table: it is what the reader says; and the requests are written again to their frames
unfoldable pub cases : List Case
cases = joined (requests ∷ no_frames ∷ heads ∷ kinds ∷ lengths ∷ verdicts ∷ field_tests ∷ [])

abbrev pub written : Read → List Bytes
written (asks r) = write_request r ∷ []
written (refused r) = []
written no_frame = []

-- the kinds, the lengths around theirs, and which of these are allowed
abbrev pub bodies : List (Kind × List ℕ × List Bool)
bodies =
    (setup_kind, 10 ∷ 11 ∷ 12 ∷ 13 ∷ [], false ∷ false ∷ true ∷ false ∷ [])
    ∷ (install_kind, 28 ∷ 29 ∷ 30 ∷ 31 ∷ 5000 ∷ [], false ∷ false ∷ true ∷ true ∷ true ∷ [])
    ∷ (retrieve_kind, 19 ∷ 20 ∷ 21 ∷ [], false ∷ true ∷ false ∷ [])
    ∷ (rek_kind, 19 ∷ 20 ∷ 21 ∷ [], false ∷ true ∷ false ∷ [])
    ∷ (enable_kind, 11 ∷ 12 ∷ 13 ∷ [], false ∷ true ∷ false ∷ [])
    ∷ (remove_kind, 9 ∷ 10 ∷ 11 ∷ [], false ∷ true ∷ false ∷ [])
    ∷ (cancel_kind, 9 ∷ 10 ∷ 11 ∷ [], false ∷ true ∷ false ∷ [])
    ∷ (list_kind, 2 ∷ 3 ∷ 4 ∷ 163 ∷ 183 ∷ [], false ∷ true ∷ true ∷ true ∷ true ∷ [])
    ∷ (info_kind, 9 ∷ 10 ∷ 11 ∷ [], false ∷ true ∷ false ∷ [])
    ∷ []

pub record Hold : Type 0 where
  pub lengths_fit : map (λ k. map (body_fits k.0) k.1) bodies ≡ map (λ k. k.2) bodies
  -- PROFILE 3.1: the verdict bit, the bit of a count, and the zero bits, of which kinds 2 and 5 have one less
  pub verdict_bit : map verdict (hex "21 00" ∷ hex "21 7F" ∷ hex "21 80" ∷ hex "21 FF" ∷ []) ≡ 0 ∷ 0 ∷ 1 ∷ 1 ∷ []
  pub kept_bit : map kept_asked (hex "22 80" ∷ hex "22 C0" ∷ hex "22 40" ∷ hex "25 BF" ∷ hex "25 FF" ∷ []) ≡ 0 ∷ 1 ∷ 1 ∷ 0 ∷ 1 ∷ []
  pub zero_bits_lem : map zero_bits (hex "21 00" ∷ hex "21 80" ∷ hex "21 81" ∷ hex "21 40" ∷ []) ≡ true ∷ true ∷ false ∷ false ∷ []
  pub zero_bits_6 : map zero_bits (hex "22 40" ∷ hex "22 C0" ∷ hex "22 E0" ∷ hex "25 80" ∷ hex "25 40" ∷ hex "25 41" ∷ hex "26 40" ∷ hex "20 40" ∷ hex "2A C0" ∷ [])
      ≡ true ∷ true ∷ false ∷ true ∷ true ∷ false ∷ false ∷ false ∷ false ∷ []
  -- PROFILE 3: three bits of version, five of kind
  pub versions : map version_holds (hex "00" ∷ hex "1F" ∷ hex "20" ∷ hex "3F" ∷ hex "40" ∷ hex "61" ∷ []) ≡ false ∷ false ∷ true ∷ true ∷ false ∷ false ∷ []
  pub kind_bits : map kind_number (hex "00" ∷ hex "1F" ∷ hex "E0" ∷ hex "30" ∷ hex "2A" ∷ []) ≡ 0 ∷ 31 ∷ 0 ∷ 16 ∷ 10 ∷ []
  -- PROFILE 3.3: the high half of the hash byte, after key and count
  pub hash_counts : map (λ b. hash_count_at18 (replicate 18 0x00 ++ (b ∷ []))) (0x0F ∷ 0x10 ∷ 0x8F ∷ 0xFF ∷ []) ≡ 0 ∷ 1 ∷ 8 ∷ 15 ∷ []
  -- PROFILE 5.2: it is not 0
  pub some_hash : map (λ b. sends_hash (replicate 18 0x00 ++ (b ∷ []))) (0x00 ∷ 0x0F ∷ 0x10 ∷ 0x80 ∷ []) ≡ false ∷ false ∷ true ∷ true ∷ []
  pub read : map (λ c. read_request c.0) cases ≡ map (λ c. c.1) cases
  pub write : joined (map (λ c. written c.1) requests) ≡ map (λ c. c.0) requests
