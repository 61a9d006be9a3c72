-- PROFILE 9: the states of the worked cases, written by hand from the layout of a slot.
use Rattle.std.specs.Prelude.{[], ◌∷◌, ◌++◌, map, replicate}
use Rattle.profile.specs.Bytes.{Bytes, joined}
use Rattle.profile.specs.CaseBytes.{hex, counting, laid, H1, H2, H3, H4, K, L, A, B, eight, five}

-- ---- one slot
-- blank
abbrev pub blank : Bytes
blank = laid []

-- after case 1: reserved, handle H1, length 5
abbrev pub after1 : Bytes
after1 = laid ((0, hex "40") ∷ (1, H1) ∷ (29, hex "00 05") ∷ [])

-- after case 7: enabled, with the key K, no count kept, the hash A and five bytes of payload
abbrev pub after7 : Bytes
after7 = laid ((0, hex "84") ∷ (1, H1) ∷ (11, K) ∷ (29, hex "00 05") ∷ (31, A) ∷ (192, five) ∷ [])

-- after case 9: disabled, handle H2
abbrev pub after9 : Bytes
after9 = laid ((0, hex "C4") ∷ (1, H2) ∷ (11, K) ∷ (29, hex "00 05") ∷ (31, A) ∷ (192, five) ∷ [])

-- after case 11: enabled under H2, with a kept count of 3
abbrev pub after11 : Bytes
after11 = laid ((0, hex "86") ∷ (1, H2) ∷ (11, K) ∷ (27, hex "00 03") ∷ (29, hex "00 05") ∷ (31, A) ∷ (192, five) ∷ [])

-- as after cases 7 and 9, with a kept count of 7
abbrev pub counted7 : Bytes
counted7 = laid ((0, hex "86") ∷ (1, H1) ∷ (11, K) ∷ (27, hex "00 07") ∷ (29, hex "00 05") ∷ (31, A) ∷ (192, five) ∷ [])

abbrev pub lent7 : Bytes
lent7 = laid ((0, hex "C6") ∷ (1, H2) ∷ (11, K) ∷ (27, hex "00 07") ∷ (29, hex "00 05") ∷ (31, A) ∷ (192, five) ∷ [])

-- case 16: with a kept count of 1 under H1, and lent under H2; used up under H2, its kept count 0, and lent under H1
abbrev pub last1 : Bytes
last1 = laid ((0, hex "86") ∷ (1, H1) ∷ (11, K) ∷ (27, hex "00 01") ∷ (29, hex "00 05") ∷ (31, A) ∷ (192, five) ∷ [])

abbrev pub lent1 : Bytes
lent1 = laid ((0, hex "C6") ∷ (1, H2) ∷ (11, K) ∷ (27, hex "00 01") ∷ (29, hex "00 05") ∷ (31, A) ∷ (192, five) ∷ [])

abbrev pub used_up : Bytes
used_up = laid ((0, hex "86") ∷ (1, H2) ∷ (11, K) ∷ (27, hex "00 00") ∷ (29, hex "00 05") ∷ (31, A) ∷ (192, five) ∷ [])

abbrev pub lent_used_up : Bytes
lent_used_up = laid ((0, hex "C6") ∷ (1, H1) ∷ (11, K) ∷ (27, hex "00 00") ∷ (29, hex "00 05") ∷ (31, A) ∷ (192, five) ∷ [])

-- case 23: a right without a hash, as after cases 7 and 9 but for that
abbrev pub bare : Bytes
bare = laid ((0, hex "80") ∷ (1, H1) ∷ (11, K) ∷ (29, hex "00 05") ∷ (192, five) ∷ [])

abbrev pub bare_lent : Bytes
bare_lent = laid ((0, hex "C0") ∷ (1, H2) ∷ (11, K) ∷ (29, hex "00 05") ∷ (192, five) ∷ [])

-- reserved under H1 with the greatest length, 4,096
abbrev pub roomy : Bytes
roomy = laid ((0, hex "40") ∷ (1, H1) ∷ (29, hex "10 00") ∷ [])

-- enabled under H1 with a kept count of 7, the hash A and 4,096 bytes of payload
abbrev pub longest : Bytes
longest = laid ((0, hex "86") ∷ (1, H1) ∷ (11, K) ∷ (27, hex "00 07") ∷ (29, hex "10 00") ∷ (31, A) ∷ (192, replicate 4096 0x5A) ∷ [])

-- enabled under H3 with another key, a kept count of 0x0102, one byte of payload and the hash A
abbrev pub hashed1 : Bytes
hashed1 = laid ((0, hex "86") ∷ (1, H3) ∷ (11, L) ∷ (27, hex "01 02") ∷ (29, hex "00 01") ∷ (31, A) ∷ (192, hex "BC") ∷ [])

-- the same with two hashes, A and B
abbrev pub hashed2 : Bytes
hashed2 = laid ((0, hex "8A") ∷ (1, H3) ∷ (11, L) ∷ (27, hex "01 02") ∷ (29, hex "00 01") ∷ (31, A ++ B) ∷ (192, hex "BC") ∷ [])

-- the same disabled
abbrev pub lent2 : Bytes
lent2 = laid ((0, hex "CA") ∷ (1, H3) ∷ (11, L) ∷ (27, hex "01 02") ∷ (29, hex "00 01") ∷ (31, A ++ B) ∷ (192, hex "BC") ∷ [])

-- enabled under H1 with eight hashes
abbrev pub hashed8 : Bytes
hashed8 = laid ((0, hex "A2") ∷ (1, H1) ∷ (11, K) ∷ (27, hex "00 07") ∷ (29, hex "00 05") ∷ (31, eight) ∷ (192, five) ∷ [])

-- reserved under ten zeros
abbrev pub nameless : Bytes
nameless = laid ((0, hex "40") ∷ (29, hex "00 05") ∷ [])

-- reserved under H3, and under H4
abbrev pub free3 : Bytes
free3 = laid ((0, hex "40") ∷ (1, H3) ∷ (29, hex "00 05") ∷ [])

abbrev pub waiting : Bytes
waiting = laid ((0, hex "40") ∷ (1, H4) ∷ (29, hex "00 05") ∷ [])

-- enabled with a key of zeros, no count kept and no hash
abbrev pub keyless : Bytes
keyless = laid ((0, hex "80") ∷ (1, H1) ∷ (29, hex "00 05") ∷ (192, five) ∷ [])

-- enabled with the same hash twice
abbrev pub twins : Bytes
twins = laid ((0, hex "8A") ∷ (1, H1) ∷ (11, K) ∷ (27, hex "00 07") ∷ (29, hex "00 05") ∷ (31, A ++ A) ∷ (192, five) ∷ [])

-- ---- fifteen handles, one after another: the first nine bytes 06 and the last from 01 to 0F
abbrev pub fifteen_handles : Bytes
fifteen_handles = joined (map (λ i. replicate 9 0x06 ++ (i ∷ [])) (counting 0x01 15))
