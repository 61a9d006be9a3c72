-- Whatever frame is read, each number told of it has 16 bits. Assumes nothing.
use Prim.Native.Nat.{◌+◌, ◌-◌, ◌*◌, ◌/◌, ◌%◌, ◌<◌}
use mathlib.Core.Path.{◌≡◌, refl, sym, subst, ◌∙◌}
use mathlib.Core.Option.{Option, none, some}
use mathlib.Core.Bool.{Bool, true, ◌&&◌, not}
use native.Mathlib.Omega.{arith}
use lib.Dec.{eqb, leb, ltb}
use lib.ListN.{length}
use Rattle.profile.specs.Bytes.{Bytes, byte, word}
use Rattle.profile.specs.Sizes.{most_slots, most_payload, handle_size, most_hashes}
use Rattle.profile.specs.Slot.{count_holds}
use Rattle.profile.specs.Frame.{Kind, setup_kind, install_kind, retrieve_kind, rek_kind, enable_kind, remove_kind, cancel_kind, list_kind, info_kind, kind_of, is_frame, version_holds, kind_number, body, kept_in, status_in}
use Rattle.profile.specs.Device.{none?, bit_allowed, shaped}
use Rattle.profile.proofs.Logic.{and_parts, leb_le, if_both, if_cases}
use Rattle.reply_reader.specs.declared.answer.Told.{Told}
use Rattle.reply_reader.specs.Told.{keyless, payload_from, right_in, key_in, list_in, info_in, told_shaped, told_success, refusal_of, told_failed, told, Reads}
use Rattle.std.specs.Prelude.{Result, Ok, Err}
use Rattle.codes.specs.declared.fault.Fault.{Fault}
use Rattle.codes.specs.declared.refusal.Refusal.{Refusal}
use Rattle.reply_reader.proofs.Shapes.{right_room, right_tests, list_room, list_tests, info_room, info_tests}
use Rattle.cavernlull.specs.Numbers.{Small}

abbrev SmallTold : Result Told Fault → Type 0
SmallTold (Ok t) = Small t.answer
SmallTold (Err e) = Unit {0}

module _ (f : Bytes) where
  right_small : shaped retrieve_kind f ≡ true → (byte 22 f / 16 < 65536) × (23 < 65536) × (payload_from f < 65536) × (length f - payload_from f < 65536)
  right_small e =
      let n = byte 22 f / 16 in
      let room = right_room f e in
      let hashed : Bool = leb n most_hashes && eqb (byte 22 f % 16) 0 in
      let sized : Bool = ltb (payload_from f) (length f) && leb (length f) (payload_from f + most_payload) in
      let all = and_parts hashed sized (and_parts (hashed && sized) (count_holds (kept_in f) (word 20 f)) (right_tests f room.0 refl refl refl ∙ e)).0 in
      let few = leb_le n most_hashes (and_parts (leb n most_hashes) (eqb (byte 22 f % 16) 0) all.0).0 in
      let short = leb_le (length f) (payload_from f + most_payload) (and_parts (ltb (payload_from f) (length f)) (leb (length f) (payload_from f + most_payload)) all.1).1 in
      (omega (arith, few), omega arith, omega (arith, few), omega (arith, short))

  list_small : shaped list_kind f ≡ true → ((length f - 5) / handle_size < 65536) × (5 < 65536)
  list_small e =
      let low = eqb (byte 4 f % 128) 0 && eqb ((length f - 5) % handle_size) 0 in
      let short = leb_le (length f - 5) (handle_size * most_slots) (and_parts low (leb (length f - 5) (handle_size * most_slots)) (list_tests f (list_room f e).0 refl ∙ e)).1 in
      (omega (arith, short), omega arith)

  info_small : shaped info_kind f ≡ true → (6 < 65536) × (length f - 6 < 65536)
  info_small e =
      let sized : Bool = ltb 6 (length f) && leb (length f) (6 + most_payload) in
      let all = and_parts sized (count_holds (kept_in f) (word 4 f)) (info_tests f (info_room f e) refl ∙ e) in
      let short = leb_le (length f) (6 + most_payload) (and_parts (ltb 6 (length f)) (leb (length f) (6 + most_payload)) all.0).1 in
      (omega arith, omega (arith, short))

  of_kind : (k : Kind) → shaped k f ≡ true → SmallTold (Ok (told_shaped k f))
  unfolding keyless right_in key_in list_in info_in
  of_kind setup_kind e = tt
  of_kind install_kind e = tt
  of_kind retrieve_kind e = right_small e
  of_kind rek_kind e = tt
  of_kind enable_kind e = tt
  of_kind remove_kind e = tt
  of_kind cancel_kind e = tt
  of_kind list_kind e = list_small e
  of_kind info_kind e = info_small e

  of_success : (k : Option Kind) → SmallTold (told_success k f)
  unfolding keyless
  of_success none = tt
  of_success (some k) = if_cases SmallTold (shaped k f) (of_kind k) (λ _. tt)

  of_failed : (r : Option Refusal) → SmallTold (told_failed (kind_number f) r f)
  unfolding keyless
  of_failed none = tt
  of_failed (some r) = if_both SmallTold (none? (body f)) tt tt

  told_small : SmallTold (told f)
  unfolding told
  told_small =
      if_both SmallTold (not (is_frame f && version_holds f)) tt
      (if_both SmallTold (not (bit_allowed f)) tt
      (if_both SmallTold (eqb (status_in f) 0) (of_success (kind_of (kind_number f))) (of_failed (refusal_of (status_in f)))))

  pub reads_small : (t : Told) → Reads f (Ok t) → Small t.answer
  reads_small t r = subst SmallTold (sym r.exact) told_small
