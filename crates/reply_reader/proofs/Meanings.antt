-- What the reader tells of a frame means what the profile says of it. Assumes nothing.
use mathlib.Core.Path.{◌≡◌, refl, sym, ap, ap₂, ◌∙◌}
use mathlib.Core.List.{List}
use mathlib.Core.Option.{Option, none, some}
use mathlib.Core.Bool.{Bool, true, false, ◌&&◌, ◌||◌, not}
use Prim.Native.Nat.{ℕ, zero, suc, ◌<◌, ◌+◌, ◌-◌, ◌*◌, ◌/◌, ◌%◌}
use native.Mathlib.Omega.{arith}
use lib.Dec.{eqb}
use lib.ListN.{length, drop, length-drop}
use lib.Seq.{drop-drop, take_all}
use Rattle.std.specs.Prelude.{if◌then◌else◌, Result, Ok}
use borrow.Author.Tests.{eqb-true, ne_eqb, lt-leb}
use Rattle.codes.specs.Codes.{number_in, refusal_meant}
use Rattle.codes.specs.declared.refusal.Refusal.{Refusal}
use Rattle.codes.specs.declared.fault.Fault.{Fault}
use Rattle.profile.specs.Bytes.{Bytes, byte, part, pieces}
use Rattle.profile.specs.Sizes.{handle_size, key_size, hash_size}
use Rattle.profile.specs.Slot.{Count, count_with}
use Rattle.profile.specs.Frame.{Kind, setup_kind, install_kind, retrieve_kind, rek_kind, enable_kind, remove_kind, cancel_kind, list_kind, info_kind, kind_of, code, is_status, is_frame, version_holds, kind_number, body, kept_in, status_in, hash_count_at18}
use Rattle.profile.specs.Request.{number_of, fields}
use Rattle.profile.specs.Agent.{Given, nothing, the_right, the_key, handles, counted}
use Rattle.profile.specs.Device.{none?, bit_allowed, shaped, count_given, given, malformed, failed, gave, read_success, read_reply}
use Rattle.profile.proofs.Logic.{if_both, if_cases}
use Rattle.profile.proofs.Requests.{kind_number_lem}
use Rattle.reply_reader.specs.declared.answer.Answer.{Answer}
use Rattle.reply_reader.specs.declared.answer.Answer.TheVariants.{Failed, Nothing, Right, Key, Handles, Counted}
use Rattle.reply_reader.specs.declared.answer.Told.{Told}
use Rattle.reply_reader.specs.Told.{meant, meaning, refusal, keyless, unread, count_from, payload_from, right_in, key_in, list_in, info_in, told_shaped, told_success, refusal_of, told_failed, told, Reads}
use Rattle.reply_reader.proofs.Shapes.{body_byte, body_word, eqb_same, key_room, list_room}

if_map : {A B : Type 0} (g : A → B) (b : Bool) {x y : A} {u v : B} → (b ≡ true → g x ≡ u) → (b ≡ false → g y ≡ v) → g (if b then x else y) ≡ (if b then u else v)
if_map g true p q = p refl
if_map g false p q = q refl

-- ---- a status and its refusal
abbrev StatusSays : ℕ → Option Refusal → Type 0
StatusSays s none = (eqb s 0 || not (is_status s)) ≡ true
StatusSays s (some r) = (code (refusal_meant r) ≡ s) × (is_status s ≡ true) × (eqb s 0 ≡ false)

status_says : (s : ℕ) → StatusSays s (refusal_of s)
status_says zero = refl
status_says (suc zero) = (refl, refl, refl)
status_says (suc (suc zero)) = (refl, refl, refl)
status_says (suc (suc (suc zero))) = (refl, refl, refl)
status_says (suc (suc (suc (suc zero)))) = (refl, refl, refl)
status_says (suc (suc (suc (suc (suc zero))))) = (refl, refl, refl)
status_says (suc (suc (suc (suc (suc (suc zero)))))) = (refl, refl, refl)
status_says (suc (suc (suc (suc (suc (suc (suc zero))))))) = (refl, refl, refl)
status_says (suc (suc (suc (suc (suc (suc (suc (suc zero)))))))) = refl
status_says (suc (suc (suc (suc (suc (suc (suc (suc (suc zero))))))))) = (refl, refl, refl)
status_says (suc (suc (suc (suc (suc (suc (suc (suc (suc (suc k)))))))))) = none_over (suc (suc (suc (suc (suc (suc (suc (suc (suc (suc k)))))))))) (omega arith)
  where
    none_over : (s : ℕ) → 9 < s → (eqb s 0 || not (is_status s)) ≡ true
    none_over s h = rw (ne_eqb s 0 (λ e. omega arith), lt-leb s 7 (omega arith), ne_eqb s 9 (λ e. omega arith))

module _ (f : Bytes) where
  -- ---- fields of the body, where they stand in the frame
  body_drop : (n : ℕ) → drop n (body f) ≡ drop (4 + n) f
  body_drop n = drop-drop n 4 f

  to_the_end : (at : ℕ) → part at (length f - at) f ≡ drop at f
  to_the_end at = take_all (length f - at) (drop at f) (rw (length-drop at f) (omega arith))

  -- ---- kind by kind
  right_given : the_right (record { key = part 4 key_size f; count = count_from 20 f; hashes = pieces hash_size (byte 22 f / 16) (drop 23 f); payload = part (payload_from f) (length f - payload_from f) f })
      ≡ given retrieve_kind f
  right_given = λ i. the_right (record { key = part 4 key_size f; count = count_is i; hashes = hashes_are i; payload = payload_is i })
    where
      count_is : count_from 20 f ≡ count_given key_size f
      count_is = ap (count_with (kept_in f)) (sym (body_word f 16))

      hashes_are : pieces hash_size (byte 22 f / 16) (drop 23 f) ≡ pieces hash_size (hash_count_at18 (body f)) (drop 19 (body f))
      hashes_are = sym (rw (body_byte f 18, body_drop 19))

      payload_is : part (payload_from f) (length f - payload_from f) f ≡ drop (19 + hash_size * hash_count_at18 (body f)) (body f)
      payload_is = to_the_end (payload_from f) ∙ sym (rw (body_byte f 18) (body_drop (19 + hash_size * (byte 22 f / 16)) ∙ ap (λ (n : ℕ). drop n f) sum))
        where
          sum : 4 + (19 + hash_size * (byte 22 f / 16)) ≡ payload_from f
          sum = omega arith

  key_given : shaped rek_kind f ≡ true → the_key (part 4 key_size f) ≡ given rek_kind f
  key_given s = ap the_key (take_all key_size (body f) (rw (length-drop 4 f) (omega (arith, key_room f s))))

  list_given : shaped list_kind f ≡ true → handles (eqb (byte 4 f / 128) 1) (pieces handle_size ((length f - 5) / handle_size) (drop 5 f)) ≡ given list_kind f
  list_given s = ap₂ (λ (a : Bool) (b : List Bytes). handles a b) more (sym list)
    where
      low : byte 4 f % 128 ≡ 0
      low = (list_room f s).1

      more : eqb (byte 4 f / 128) 1 ≡ eqb (byte 0 (body f)) 128
      more = rw (body_byte f 0) (eqb_same (byte 4 f / 128) 1 (byte 4 f) 128 (λ e. omega (arith, low)) (λ e. omega arith))

      size : length (body f) - 1 ≡ length f - 5
      size = rw (length-drop 4 f) (omega arith)

      list : pieces handle_size ((length (body f) - 1) / handle_size) (drop 1 (body f)) ≡ pieces handle_size ((length f - 5) / handle_size) (drop 5 f)
      list = rw (size, body_drop 1)

  info_given : counted (count_from 4 f) (part 6 (length f - 6) f) ≡ given info_kind f
  info_given = ap₂ (λ (a : Count) (b : Bytes). counted a b) (ap (count_with (kept_in f)) (sym (body_word f 0))) (to_the_end 6 ∙ sym (body_drop 2))

  of_kind : (k : Kind) → number_of (fields k f) ≡ kind_number f → shaped k f ≡ true → meaning f (Ok (told_shaped k f)) ≡ gave (kind_number f) (given k f)
  unfolding keyless right_in key_in list_in info_in
  of_kind setup_kind n s = ap (λ (k : ℕ). gave k nothing) n
  of_kind install_kind n s = ap (λ (k : ℕ). gave k nothing) n
  of_kind retrieve_kind n s = ap₂ (λ (k : ℕ) (g : Given). gave k g) n right_given
  of_kind rek_kind n s = ap₂ (λ (k : ℕ) (g : Given). gave k g) n (key_given s)
  of_kind enable_kind n s = ap (λ (k : ℕ). gave k nothing) n
  of_kind remove_kind n s = ap (λ (k : ℕ). gave k nothing) n
  of_kind cancel_kind n s = ap (λ (k : ℕ). gave k nothing) n
  of_kind list_kind n s = ap₂ (λ (k : ℕ) (g : Given). gave k g) n (list_given s)
  of_kind info_kind n s = ap₂ (λ (k : ℕ) (g : Given). gave k g) n info_given

  -- ---- a frame
  of_success : (k : Option Kind) → kind_of (kind_number f) ≡ k → meaning f (told_success k f) ≡ read_success k f
  unfolding keyless
  of_success none e = refl
  of_success (some k) e = if_map (meaning f) (shaped k f) (of_kind k (kind_number_lem (kind_number f) k e f)) (λ _. refl)

  of_status : (s : ℕ) (r : Option Refusal) → StatusSays s r
      → meaning f (if eqb s 0 then told_success (kind_of (kind_number f)) f else told_failed (kind_number f) r f)
      ≡ (if not (is_status s) then malformed else if eqb s 0 then read_success (kind_of (kind_number f)) f else if none? (body f) then failed (kind_number f) s else malformed)
  unfolding keyless
  of_status s none e = go (eqb s 0) refl
    where
      go : (b : Bool) → eqb s 0 ≡ b
          → meaning f (if eqb s 0 then told_success (kind_of (kind_number f)) f else unread)
          ≡ (if not (is_status s) then malformed else if eqb s 0 then read_success (kind_of (kind_number f)) f else if none? (body f) then failed (kind_number f) s else malformed)
      go true z = rw (eqb-true s 0 z) (of_success (kind_of (kind_number f)) refl)
      go false z = let n : not (is_status s) ≡ true = rw z at e in rw (z, n)
  of_status s (some r) h = rw (h.2, h.1) (if_map (meaning f) (none? (body f)) (λ _. ap (failed (kind_number f)) h.0) (λ _. refl))

  pub told_means : meaning f (told f) ≡ read_reply f
  unfolding told read_reply
  told_means =
      if_map (meaning f) (not (is_frame f && version_holds f)) (λ _. refl) λ _.
      if_map (meaning f) (not (bit_allowed f)) (λ _. refl) λ _. of_status (status_in f) (refusal_of (status_in f)) (status_says (status_in f))

  pub reads : (t : Result Told Fault) → t ≡ told f → Reads f t
  reads t e = record { exact = e; means = ap (meaning f) e ∙ told_means }

  -- ---- the number of what is told is that of what it means
  abbrev pub NumberMeans : Result Told Fault → Type 0
  NumberMeans t = number_in t ≡ refusal (meaning f t)

  of_answer : (key : Bytes) (a : Answer) → 0 ≡ refusal (meant f key a)
  of_answer key (Failed kind r) = refl
  of_answer key (Nothing kind) = refl
  of_answer key (Right count n hashes at size) = refl
  of_answer key Key = refl
  of_answer key (Handles more n at) = refl
  of_answer key (Counted count at size) = refl

  number_success : (k : Option Kind) → NumberMeans (told_success k f)
  number_success none = refl
  number_success (some k) = if_cases NumberMeans (shaped k f) (λ _. of_answer (told_shaped k f).key (told_shaped k f).answer) (λ _. refl)

  number_failed : (r : Option Refusal) → NumberMeans (told_failed (kind_number f) r f)
  unfolding keyless
  number_failed none = refl
  number_failed (some r) = if_both NumberMeans (none? (body f)) refl refl

  pub number_means : NumberMeans (told f)
  unfolding told
  number_means =
      if_both NumberMeans (not (is_frame f && version_holds f)) refl
      (if_both NumberMeans (not (bit_allowed f)) refl
      (if_both NumberMeans (eqb (status_in f) 0) (number_success (kind_of (kind_number f))) (number_failed (refusal_of (status_in f)))))
