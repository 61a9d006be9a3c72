-- What the request reader answers, for every frame (PROFILE 4.3 and 6.1): the tests in their order, and the answers.
use Rattle.std.specs.Prelude.{ℕ, ◌+◌, ◌-◌, ◌*◌, ◌/◌, ◌%◌, Bool, ◌&&◌, not, eqb, leb, if◌then◌else◌, Result, Ok, Err, MatchResult, ◌≡◌, ◌≤◌, length, None}
use Rattle.std.proofs.Math.Option.{Option, none, some}
use Rattle.codes.specs.declared.kind.Kind as codes
use Rattle.codes.specs.Codes.{kind_meant}
use Rattle.profile.specs.Bytes.{Bytes, byte, part, word, zeros, from1to}
use Rattle.profile.specs.Sizes.{most_payload, handle_size, key_size, hash_size, most_hashes}
use Rattle.profile.specs.Frame.{Kind, setup_kind, install_kind, retrieve_kind, rek_kind, enable_kind, remove_kind, cancel_kind, list_kind, info_kind, kind_of, is_frame, version_holds, kind_number}
use Rattle.profile.specs.Slot.{Count, count_holds, count_with}
use Rattle.profile.specs.Request.{sends_count, verdict, kept_asked, body_fits, guarded}
use Rattle.request_reader.specs.declared.asked.Why.{Why}
use Rattle.request_reader.specs.declared.asked.Why.TheVariants as why
use Rattle.request_reader.specs.declared.asked.Body.{Body}
use Rattle.request_reader.specs.declared.asked.Body.TheVariants as body
use Rattle.request_reader.specs.declared.asked.Asked.{Asked}

-- ---- requests: an array that the kind lacks is all zero, and a kind that sends no count keeps none
abbrev pub blank : Body → Asked
blank b = record { body = b; handle = zeros handle_size; new = zeros handle_size; key = zeros key_size; count = None }

-- the handle is at offset 4, and the new handle or the key at offset 14
unfoldable pub one_handle : Bytes → Count → Body → Asked
one_handle f c b = record { body = b; handle = part 4 handle_size f; new = zeros handle_size; key = zeros key_size; count = c }

unfoldable pub two_handles : Bytes → Body → Asked
two_handles f b = record { body = b; handle = part 4 handle_size f; new = part 14 handle_size f; key = zeros key_size; count = None }

-- a count, n hashes from offset 33, and after them len bytes of payload
unfoldable pub installation : Bytes → Count → ℕ → ℕ → Asked
installation f c n len = record { body = body.Install n 33 len; handle = part 4 handle_size f; new = zeros handle_size; key = part 14 key_size f; count = c }

-- n hashes from offset 7
unfoldable pub list_query : Bytes → ℕ → Asked
list_query f n = record { body = body.List (word 4 f) n 7; handle = zeros handle_size; new = zeros handle_size; key = zeros key_size; count = None }

-- ---- the tests of a body of n bytes, by its kind
-- 2 where the body's length is not its kind's, then 1 where the verdict is 0
abbrev pub tested : {A : Type 0} → Bool → ℕ → Result A Why → Result A Why
tested fits v a =
    if not fits then Err why.Parameter
    else if eqb v 0 then Err why.Integrity
    else a

-- kind 2: 2 where the hash count is 0 or over 8, one of the 4 zero bits is set, or the payload is not 1 to 4,096 bytes long
abbrev pub install_holds : ℕ → Bytes → Bool
install_holds n f =
    leb 1 (byte 32 f / 16)
    && leb (byte 32 f / 16) most_hashes
    && eqb (byte 32 f % 16) 0
    && from1to most_payload (n - (29 + hash_size * (byte 32 f / 16)))

-- 2 also where the bit and the number of the count, at offset 30, say no count
unfoldable pub of_right : Bytes → ℕ → ℕ → Result Asked Why
of_right f n len =
    if count_holds (kept_asked f) (word 30 f) then Ok (installation f (count_with (kept_asked f) (word 30 f)) n len)
    else Err why.Parameter

unfoldable pub of_install : ℕ → Bytes → Result Asked Why
of_install n f =
    if install_holds n f then of_right f (byte 32 f / 16) (n - (29 + hash_size * (byte 32 f / 16)))
    else Err why.Parameter

-- kind 5: 2 where the bit and the number of the count, at offset 14, say no count
unfoldable pub of_enable : Bytes → Result Asked Why
of_enable f =
    if count_holds (kept_asked f) (word 14 f) then Ok (one_handle f (count_with (kept_asked f) (word 14 f)) body.Enable)
    else Err why.Parameter

-- kind 8: 2 where the hash count is over 8, or the body is not exactly as long as its hashes make it
abbrev pub list_holds : ℕ → Bytes → Bool
list_holds n f = leb (byte 6 f) most_hashes && eqb n (3 + hash_size * byte 6 f)

unfoldable pub of_list : ℕ → Bytes → Result Asked Why
of_list n f = if list_holds n f then Ok (list_query f (byte 6 f)) else Err why.Parameter

-- the fields of a body whose length and verdict hold, with the field tests of kinds 2, 5 and 8
abbrev pub of_fields : Kind → ℕ → Bytes → Result Asked Why
of_fields setup_kind n f = Ok (one_handle f None (body.Setup (word 14 f)))
of_fields install_kind n f = of_install n f
of_fields retrieve_kind n f = Ok (two_handles f body.Retrieve)
of_fields rek_kind n f = Ok (two_handles f body.Rek)
of_fields enable_kind n f = of_enable f
of_fields remove_kind n f = Ok (one_handle f None body.Remove)
of_fields cancel_kind n f = Ok (one_handle f None body.Cancel)
of_fields list_kind n f = of_list n f
of_fields info_kind n f = Ok (one_handle f None body.Info)

-- the verdict is heeded for kinds 1 to 7; for kinds 8 and 9 it is taken to be 1
abbrev pub heeded : Kind → ℕ → ℕ
heeded k v = if guarded k then v else 1

-- 3 where the kind is not 1 to 9
unfoldable pub of_kind : Option Kind → ℕ → ℕ → Bytes → Result Asked Why
of_kind none n v f = Err why.Unsupported
of_kind (some k) n v f = tested (body_fits k n) (heeded k v) (of_fields k n f)

-- the zero bits of the second byte: six for the kinds that send a count, seven for every other, known or not
abbrev pub zero_below : Option Kind → ℕ → Bool
zero_below k second = eqb (second % (if sends_count k then 64 else 128)) 0

-- ---- the answer to every frame: first 104, then the tests for all kinds
unfoldable pub asked : Bytes → Result Asked Why
asked f =
    if not (is_frame f) then Err why.NoFrame
    else if not (version_holds f && zero_below (kind_of (kind_number f)) (byte 1 f)) then Err why.Parameter
    else of_kind (kind_of (kind_number f)) (word 2 f) (verdict f) f

-- what a head says of the answer: it is this refusal; or the head is whole, and its kind answers
abbrev pub HeadTells : Bytes → Result codes.Kind Why → Type 0
HeadTells f r =
    MatchResult r
    (λ k. (4 ≤ length f) × (of_kind (some (kind_meant k)) (length f - 4) (verdict f) f ≡ asked f))
    (λ w. Err w ≡ asked f)
