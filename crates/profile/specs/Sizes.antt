-- PROFILE 1.3, 2.2, 4.1, 4.5, 6.2 and 6.3: the profile's sizes, offsets and numbers, each said once.
use Rattle.std.specs.Prelude.{ℕ}

-- ---- sizes in bytes, and how many there may be
abbrev pub slot_size : ℕ
slot_size = 4288

abbrev pub most_slots : ℕ
most_slots = 15

-- the longest reply, and so the least reply buffer
abbrev pub reply_room : ℕ
reply_room = 4279

abbrev pub most_payload : ℕ
most_payload = 4096

abbrev pub handle_size : ℕ
handle_size = 10

abbrev pub key_size : ℕ
key_size = 16

-- an asset hash is a SHA-1 digest
abbrev pub hash_size : ℕ
hash_size = 20

abbrev pub most_hashes : ℕ
most_hashes = 8

-- room for the most hashes
abbrev pub hash_room : ℕ
hash_room = 160

-- ---- offsets in a slot; byte 0 holds the place and the hash count
abbrev pub handle_at : ℕ
handle_at = 1

abbrev pub key_at : ℕ
key_at = 11

abbrev pub count_at : ℕ
count_at = 27

abbrev pub length_at : ℕ
length_at = 29

abbrev pub hashes_at : ℕ
hashes_at = 31

-- the byte between hashes and payload, which is always zero
abbrev pub gap_at : ℕ
gap_at = 191

abbrev pub payload_at : ℕ
payload_at = 192

-- ---- numbers of the call, in the order in which it tests
abbrev pub reply_buffer_short : ℕ
reply_buffer_short = 101

abbrev pub table_length : ℕ
table_length = 102

abbrev pub start_outside : ℕ
start_outside = 105

abbrev pub table_not_well_formed : ℕ
table_not_well_formed = 103

abbrev pub tally_differs : ℕ
tally_differs = 106

abbrev pub not_a_frame : ℕ
not_a_frame = 104

-- ---- the salvage's own number
abbrev pub report_buffer_short : ℕ
report_buffer_short = 107

-- ---- the totalling call's own number; the most counted returns in a total, and the most that one of them can add or take off
abbrev pub total_outside : ℕ
total_outside = 108

abbrev pub most_returns : ℕ
most_returns = 30000

abbrev pub most_change : ℕ
most_change = 65535

-- ---- numbers of the device's end: the request writer's two, and the reply reader's
abbrev pub writer_buffer_short : ℕ
writer_buffer_short = 201

abbrev pub writer_fields : ℕ
writer_fields = 202

abbrev pub not_a_reply : ℕ
not_a_reply = 203
