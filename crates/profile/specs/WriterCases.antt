-- PROFILE 6.2, in worked cases: what the request writer writes, and what it refuses.
use Rattle.std.specs.Prelude.{ℕ, ◌+◌, ◌-◌, ◌≡◌, List, [], ◌∷◌, ◌++◌, map, length, take, replicate}
use Rattle.profile.specs.Bytes.{Bytes}
use Rattle.profile.specs.Device.{Fields, Written, write}
use Rattle.profile.specs.CaseBytes.{hex, h, n, key, p, eight}

-- a kind, fields, the length of the buffer; the number, and the frame at the buffer's start
pub record Case : Type 0 where
  pub kind : ℕ
  pub fields : Fields
  pub room : ℕ
  pub number : ℕ
  pub frame : Bytes

-- a buffer that holds AA in each byte
abbrev pub buffer : ℕ → Bytes
buffer n = replicate n 0xAA

abbrev pub outcome : Case → Written
outcome c = write c.kind c.fields (buffer c.room)

-- the frame at the start of the buffer, whose other bytes stay
abbrev pub expected : Case → Written
expected c = record { number = c.number; buffer = c.frame ++ buffer (c.room - length c.frame) }

-- refused, and no byte changed
abbrev pub refuses : ℕ → Fields → ℕ → ℕ → Case
refuses kind f room n = record { kind = kind; fields = f; room = room; number = n; frame = [] }

-- the frame, into a buffer that is as long, and one that is longer; 201 with a buffer one byte shorter, and with none
abbrev pub writes : ℕ → Fields → Bytes → List Case
writes kind f frame =
    record { kind = kind; fields = f; room = length frame; number = 0; frame = frame }
    ∷ record { kind = kind; fields = f; room = length frame + 3; number = 0; frame = frame }
    ∷ refuses kind f (length frame - 1) 201
    ∷ refuses kind f 0 201
    ∷ []

-- ---- blank: a handle, and a key
abbrev pub z10 : Bytes
z10 = replicate 10 0x00

abbrev pub z16 : Bytes
z16 = replicate 16 0x00

-- handle and new handle; key; length, count, its bit and limit; hashes and payload
abbrev pub all_of : Bytes → Bytes → Bytes → ℕ → ℕ → ℕ → ℕ → Bytes → Bytes → Fields
all_of handle new key room count kept limit hashes payload =
    record { handle = handle; new = new; key = key; room = room; count = count; kept = kept; limit = limit; hashes = hashes; payload = payload }

-- the same fields but for one
abbrev pub with_new : Bytes → Fields → Fields
with_new x f = record { handle = f.handle; new = x; key = f.key; room = f.room; count = f.count; kept = f.kept; limit = f.limit; hashes = f.hashes; payload = f.payload }

abbrev pub with_key : Bytes → Fields → Fields
with_key x f = record { handle = f.handle; new = f.new; key = x; room = f.room; count = f.count; kept = f.kept; limit = f.limit; hashes = f.hashes; payload = f.payload }

abbrev pub with_room : ℕ → Fields → Fields
with_room x f = record { handle = f.handle; new = f.new; key = f.key; room = x; count = f.count; kept = f.kept; limit = f.limit; hashes = f.hashes; payload = f.payload }

abbrev pub with_count : ℕ → Fields → Fields
with_count x f = record { handle = f.handle; new = f.new; key = f.key; room = f.room; count = x; kept = f.kept; limit = f.limit; hashes = f.hashes; payload = f.payload }

abbrev pub with_kept : ℕ → Fields → Fields
with_kept x f = record { handle = f.handle; new = f.new; key = f.key; room = f.room; count = f.count; kept = x; limit = f.limit; hashes = f.hashes; payload = f.payload }

abbrev pub with_limit : ℕ → Fields → Fields
with_limit x f = record { handle = f.handle; new = f.new; key = f.key; room = f.room; count = f.count; kept = f.kept; limit = x; hashes = f.hashes; payload = f.payload }

abbrev pub with_hashes : Bytes → Fields → Fields
with_hashes x f = record { handle = f.handle; new = f.new; key = f.key; room = f.room; count = f.count; kept = f.kept; limit = f.limit; hashes = x; payload = f.payload }

abbrev pub with_payload : Bytes → Fields → Fields
with_payload x f = record { handle = f.handle; new = f.new; key = f.key; room = f.room; count = f.count; kept = f.kept; limit = f.limit; hashes = f.hashes; payload = x }

abbrev pub with_handle : Bytes → Fields → Fields
with_handle x f = record { handle = x; new = f.new; key = f.key; room = f.room; count = f.count; kept = f.kept; limit = f.limit; hashes = f.hashes; payload = f.payload }

-- a field that the kind does not have and that is not blank, or does not allow: 202, though the buffer is too short; a byte of an array, the first and the last
abbrev pub lacks : ℕ → Fields → List (Fields → Fields) → List Case
lacks kind f [] = []
lacks kind f (w ∷ ws) = refuses kind (w f) 0 202 ∷ lacks kind f ws

abbrev pub first_and_last : (Bytes → Fields → Fields) → ℕ → List (Fields → Fields)
first_and_last w size = w (0x01 ∷ replicate (size - 1) 0x00) ∷ w (replicate (size - 1) 0x00 ++ (0x01 ∷ [])) ∷ []

abbrev pub some_handle : List (Fields → Fields)
some_handle = first_and_last with_handle 10

abbrev pub some_new : List (Fields → Fields)
some_new = first_and_last with_new 10

abbrev pub some_key : List (Fields → Fields)
some_key = first_and_last with_key 16

abbrev pub some_room : List (Fields → Fields)
some_room = with_room 1 ∷ with_room 256 ∷ []

abbrev pub some_count : List (Fields → Fields)
some_count = with_count 1 ∷ with_count 256 ∷ with_kept 1 ∷ with_kept 2 ∷ []

-- what says no count, from fields that have one: its number without the bit, and a bit that is neither 0 nor 1
abbrev pub bad_count : List (Fields → Fields)
bad_count = with_kept 0 ∷ with_kept 2 ∷ with_kept 255 ∷ []

abbrev pub some_limit : List (Fields → Fields)
some_limit = with_limit 1 ∷ with_limit 256 ∷ []

abbrev pub some_hashes : List (Fields → Fields)
some_hashes = with_hashes (replicate 20 0x00) ∷ []

abbrev pub some_payload : List (Fields → Fields)
some_payload = with_payload (0x00 ∷ []) ∷ []

-- ---- the fields of each kind
abbrev pub of1 : Fields
of1 = all_of h z10 z16 0x3132 0 0 0 [] []

abbrev pub of2 : Fields
of2 = all_of h z10 key 0 0x3334 1 0 p (hex "51 52")

abbrev pub of3 : Fields
of3 = all_of h n z16 0 0 0 0 [] []

abbrev pub of5 : Fields
of5 = all_of h z10 z16 0 0x3334 1 0 [] []

abbrev pub of6 : Fields
of6 = all_of h z10 z16 0 0 0 0 [] []

abbrev pub of8 : Fields
of8 = all_of z10 z10 z16 0 0 0 0x3536 p []

-- ---- the frame of each kind, with the verdict 1
unfoldable pub frames : List Case
frames =
    writes 1 of1 (hex "21 80 00 0C" ++ h ++ hex "31 32")
    ++ writes 2 of2 (hex "22 C0 00 33" ++ h ++ key ++ hex "33 34 10" ++ p ++ hex "51 52")
    ++ writes 3 of3 (hex "23 80 00 14" ++ h ++ n)
    ++ writes 4 of3 (hex "24 80 00 14" ++ h ++ n)
    ++ writes 5 of5 (hex "25 C0 00 0C" ++ h ++ hex "33 34")
    ++ writes 6 of6 (hex "26 80 00 0A" ++ h)
    ++ writes 7 of6 (hex "27 80 00 0A" ++ h)
    ++ writes 8 of8 (hex "28 80 00 17 35 36 01" ++ p)
    ++ writes 9 of6 (hex "29 80 00 0A" ++ h)
    -- every field may be zero: the writer tests neither a length of 0 nor equal handles
    ++ writes 1 (with_room 0 of6) (hex "21 80 00 0C" ++ h ++ hex "00 00")
    ++ writes 4 (with_new h of6) (hex "24 80 00 14" ++ h ++ h)
    ++ writes 8 (all_of z10 z10 z16 0 0 0 0 [] []) (hex "28 80 00 03 00 00 00")
    -- no count kept, and a kept count of 0, of 1 and of the greatest number
    ++ writes 2 (with_count 0 (with_kept 0 of2)) (hex "22 80 00 33" ++ h ++ key ++ hex "00 00 10" ++ p ++ hex "51 52")
    ++ writes 2 (with_count 0 of2) (hex "22 C0 00 33" ++ h ++ key ++ hex "00 00 10" ++ p ++ hex "51 52")
    ++ writes 5 of6 (hex "25 80 00 0C" ++ h ++ hex "00 00")
    ++ writes 5 (with_count 0 of5) (hex "25 C0 00 0C" ++ h ++ hex "00 00")
    ++ writes 5 (with_count 1 of5) (hex "25 C0 00 0C" ++ h ++ hex "00 01")
    ++ writes 5 (with_count 65535 of5) (hex "25 C0 00 0C" ++ h ++ hex "FF FF")

-- ---- 202
unfoldable pub refusals : List Case
refusals =
    -- an unknown kind, also with a buffer too short
    refuses 0 of6 100 202
    ∷ refuses 10 of6 100 202
    ∷ refuses 31 of6 100 202
    ∷ refuses 33 of6 100 202
    ∷ refuses 0 of6 0 202
    -- hash bytes that are not whole hashes, or more than 8 of them: for kinds 2 and 8
    ∷ refuses 2 (with_hashes (take 19 p) of2) 300 202
    ∷ refuses 2 (with_hashes (p ++ hex "00") of2) 300 202
    ∷ refuses 2 (with_hashes (hex "00") of2) 300 202
    ∷ refuses 2 (with_hashes (eight ++ p) of2) 300 202
    ∷ refuses 8 (with_hashes (take 19 p) of8) 300 202
    ∷ refuses 8 (with_hashes (p ++ hex "00") of8) 300 202
    ∷ refuses 8 (with_hashes (eight ++ p) of8) 300 202
    ∷ refuses 8 (with_hashes (eight ++ p) of8) 0 202
    -- kind 2: no hash, also with a buffer too short
    ∷ refuses 2 (with_hashes [] of2) 300 202
    ∷ refuses 2 (with_hashes [] of2) 0 202
    ∷ refuses 2 (with_hashes [] (with_count 0 (with_kept 0 of2))) 300 202
    -- kind 2: no payload, and one of 4,097 bytes
    ∷ refuses 2 (with_payload [] of2) 300 202
    ∷ refuses 2 (with_payload (replicate 4097 0x5A) of2) 4200 202
    ∷ []

-- hashes of one and eight, payloads of one and 4,096 bytes; for kind 8 none is among the frames above
unfoldable pub bounds : List Case
bounds =
    writes 2 (with_payload (hex "51") of2) (hex "22 C0 00 32" ++ h ++ key ++ hex "33 34 10" ++ p ++ hex "51")
    ++ writes 2 (with_hashes eight of2) (hex "22 C0 00 BF" ++ h ++ key ++ hex "33 34 80" ++ eight ++ hex "51 52")
    ++ writes 8 (with_hashes eight of8) (hex "28 80 00 A3 35 36 08" ++ eight)
    ++ take 1 (writes 2 (with_payload (replicate 4096 0x5A) of2) (hex "22 C0 10 31" ++ h ++ key ++ hex "33 34 10" ++ p ++ replicate 4096 0x5A))

-- kind by kind, the fields that it does not have; for kinds 2 and 5 also what says no count
unfoldable pub lacking : List Case
lacking =
    lacks 1 of1 (some_new ++ some_key ++ some_count ++ some_limit ++ some_hashes ++ some_payload)
    ++ lacks 2 of2 (some_new ++ some_room ++ some_limit ++ bad_count)
    ++ lacks 3 of3 (some_key ++ some_room ++ some_count ++ some_limit ++ some_hashes ++ some_payload)
    ++ lacks 4 of3 (some_key ++ some_room ++ some_count ++ some_limit ++ some_hashes ++ some_payload)
    ++ lacks 5 of5 (some_new ++ some_key ++ some_room ++ some_limit ++ some_hashes ++ some_payload ++ bad_count)
    ++ lacks 6 of6 (some_new ++ some_key ++ some_room ++ some_count ++ some_limit ++ some_hashes ++ some_payload)
    ++ lacks 7 of6 (some_new ++ some_key ++ some_room ++ some_count ++ some_limit ++ some_hashes ++ some_payload)
    ++ lacks 8 of8 (some_handle ++ some_new ++ some_key ++ some_room ++ some_count ++ some_payload)
    ++ lacks 9 of6 (some_new ++ some_key ++ some_room ++ some_count ++ some_limit ++ some_hashes ++ some_payload)

-- ---- the whole table: it is what the writer does
unfoldable pub cases : List Case
cases = frames ++ refusals ++ bounds ++ lacking

abbrev pub Hold : Type 0
Hold = map outcome cases ≡ map expected cases
