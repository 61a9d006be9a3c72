-- The reader's answer means what the profile reads of the frame, and its offsets lie in the frame. Assumes nothing.
use Prim.Native.Nat.{ℕ, ◌+◌, ◌-◌, ◌*◌, ◌/◌, ◌%◌, ◌≤◌}
use mathlib.Core.Path.{◌≡◌, refl, sym, ap, ap₂, ◌∙◌}
use mathlib.Core.Option.{Option, none, some}
use mathlib.Core.Bool.{Bool, true, false, ◌&&◌, not}
use native.Mathlib.Omega.{arith}
use lib.Dec.{eqb, leb}
use lib.ListN.{length, get_or, drop, length-drop}
use lib.Seq.{drop-drop, take_all, get_or-drop}
use Rattle.std.specs.Prelude.{if◌then◌else◌, Result, Ok, Err, IfOk, None}
use Rattle.profile.specs.Bytes.{Bytes, byte, part, word, zeros, from1to}
use Rattle.profile.specs.Sizes.{most_payload, handle_size, key_size, hash_size, most_hashes}
use Rattle.profile.specs.Frame.{Kind, setup_kind, install_kind, retrieve_kind, rek_kind, enable_kind, remove_kind, cancel_kind, list_kind, info_kind, kind_of, kind_number, is_frame, version_holds, body, parameter}
use Rattle.profile.specs.Slot.{Count, count_holds, count_with}
use Rattle.profile.specs.Request.{install, Read, asks, refused, zero_bits, verdict, kept_asked, body_fits, guarded, fields_hold, fields, read_kind, read_request}
use Rattle.profile.proofs.Logic.{and_parts, not_false, eqb_eq, leb_le, from_1_to_says}
use Rattle.profile.proofs.Strings.{length_part, length_zeros}
use Rattle.request_reader.specs.declared.asked.Why.{Why}
use Rattle.request_reader.specs.declared.asked.Why.TheVariants.{NoFrame, Integrity, Parameter, Unsupported}
use Rattle.request_reader.specs.declared.asked.Body.{Body}
use Rattle.request_reader.specs.declared.asked.Body.TheVariants as variant
use Rattle.request_reader.specs.declared.asked.Asked.{Asked}
use Rattle.request_reader.specs.Asking.{one_handle, two_handles, installation, list_query as listing, install_holds, of_right, of_install, of_enable, list_holds, of_list, of_fields, heeded, of_kind, asked}
use Rattle.request_reader.specs.Answer.{why_means, right_in, meaning, InstallEnds, ListEnds, BodyEnds, Sizes, Answers}

-- two choices by one test, side by side
if_alike : {A B : Type 0} (R : A → B → Type 0) (b : Bool) {x y : A} {x' y' : B} → (b ≡ true → R x x') → (b ≡ false → R y y') → R (if b then x else y) (if b then x' else y')
if_alike R true p q = p refl
if_alike R false p q = q refl

-- a first test, taken in with three others
first_in : (a b c d : Bool) → (a && ((b && c) && d)) ≡ (((a && b) && c) && d)
first_in true b c d = refl
first_in false b c d = refl

-- a word, seen from a later offset
word_from : (n at : ℕ) (f : Bytes) → word at (drop n f) ≡ word (n + at) f
word_from n at f = ap₂ (λ (a b : ℕ). 256 * a + b) (get_or-drop n f at 0) (get_or-drop n f (at + 1) 0 ∙ ap (λ (i : ℕ). get_or f i 0) (omega arith))

-- an answer and what the profile reads of the frame
record Agree (f : Bytes) (a : Result Asked Why) (r : Read) : Type 0 where
  means : meaning f a ≡ r
  ends : IfOk a (λ x. BodyEnds f x.body)
  sizes : IfOk a Sizes

-- the arrays of an answer that has none
none_sized : (a : Asked) → a.handle ≡ zeros handle_size → a.new ≡ zeros handle_size → a.key ≡ zeros key_size → Sizes a
none_sized a h n k = record { handle_10 = rw h (length_zeros handle_size); new_10 = rw n (length_zeros handle_size); key_16 = rw k (length_zeros key_size) }

refuses : (f : Bytes) (w : Why) → Agree f (Err w) (why_means w)
unfolding meaning
refuses f w = record { means = refl; ends = tt; sizes = tt }

-- an answer with a handle, and with two
one_agrees : (f : Bytes) (c : Count) (b : Body) (r : Read) → 14 ≤ length f → meaning f (Ok (one_handle f c b)) ≡ r → BodyEnds f b → Agree f (Ok (one_handle f c b)) r
unfolding one_handle
one_agrees f c b r h m e = record { means = m; ends = e; sizes = record { handle_10 = length_part 4 handle_size f h; new_10 = length_zeros handle_size; key_16 = length_zeros key_size } }

two_agree : (f : Bytes) (b : Body) (r : Read) → 24 ≤ length f → meaning f (Ok (two_handles f b)) ≡ r → BodyEnds f b → Agree f (Ok (two_handles f b)) r
unfolding two_handles
two_agree f b r h m e = record { means = m; ends = e; sizes = record { handle_10 = length_part 4 handle_size f (omega arith); new_10 = length_part 14 handle_size f h; key_16 = length_zeros key_size } }

module _ (f : Bytes) (is : is_frame f ≡ true) where
  abbrev n : ℕ
  n = word 2 f

  long : length f ≡ 4 + n
  long = eqb_eq (length f) (4 + n) (and_parts (leb 4 (length f)) (eqb (length f) (4 + n)) is).1

  size : length (body f) ≡ n
  size = rw (length-drop 4 f) (omega (arith, long))

  -- the part of the body from an offset on is the rest of the frame
  rest : (at k : ℕ) → n ≡ at + k → part (4 + at) k f ≡ drop at (body f)
  rest at k e = rw (drop-drop at 4 f) (take_all k (drop (4 + at) f) (rw (length-drop (4 + at) f) (omega (arith, long, e))))

  -- ---- kinds 1 and 5: a handle and a word
  word_10 : word 14 f ≡ word 10 (body f)
  word_10 = sym (word_from 4 10 f)

  enable_tests : fields_hold enable_kind f ≡ count_holds (kept_asked f) (word 14 f)
  enable_tests = rw word_10

  enable_agrees : n ≡ 12 → (b : Bool) → count_holds (kept_asked f) (word 14 f) ≡ b → Agree f (of_enable f) (if not (fields_hold enable_kind f) then refused parameter else asks (fields enable_kind f))
  unfolding of_enable one_handle meaning
  enable_agrees e true h =
      rw (enable_tests, h)
      (one_agrees f (count_with (kept_asked f) (word 14 f)) variant.Enable (asks (fields enable_kind f)) (omega (arith, long)) (rw word_10) tt)
  enable_agrees e false h = rw (enable_tests, h) (refuses f Parameter)

  -- ---- kind 2
  from_14 : drop 10 (body f) ≡ drop 14 f
  from_14 = drop-drop 10 4 f

  byte_32 : byte 18 (drop 14 f) ≡ byte 32 f
  byte_32 = get_or-drop 14 f 18 0

  abbrev count : ℕ
  count = byte 32 f / 16

  payload_size : length (drop 14 f) - (19 + hash_size * count) ≡ n - (29 + hash_size * count)
  payload_size = rw (length-drop 14 f) (omega (arith, long))

  install_tests : fields_hold install_kind f ≡ (install_holds n f && count_holds (kept_asked f) (word 30 f))
  install_tests =
      rw (from_14, byte_32, payload_size, word_from 4 26 f)
      (ap (λ (b : Bool). b && count_holds (kept_asked f) (word 30 f))
      (first_in (leb 1 count) (leb count most_hashes) (eqb (byte 32 f % 16) 0) (from1to most_payload (n - (29 + hash_size * count)))))

  install_ends : install_holds n f ≡ true → InstallEnds f count 33 (n - (29 + hash_size * count))
  install_ends h =
      let p = and_parts (leb 1 count && leb count most_hashes && eqb (byte 32 f % 16) 0) (from1to most_payload (n - (29 + hash_size * count))) h in
      let s = and_parts (leb 1 count && leb count most_hashes) (eqb (byte 32 f % 16) 0) p.0 in
      let q = from_1_to_says most_payload (n - (29 + hash_size * count)) p.1 in
      record {
        few = leb_le count most_hashes (and_parts (leb 1 count) (leb count most_hashes) s.0).1;
        least = q.0;
        most = q.1;
        ends = omega (arith, long, q.0);
      }

  install_fields : install_holds n f ≡ true → install (part 4 handle_size f) (right_in f (part 14 key_size f) (count_with (kept_asked f) (word 30 f)) count 33 (n - (29 + hash_size * count))) ≡ fields install_kind f
  install_fields h =
      rw (from_14, byte_32, word_from 4 26 f, drop-drop 19 14 f, drop-drop (19 + hash_size * count) 14 f, payload)
    where
      e : InstallEnds f count 33 (n - (29 + hash_size * count))
      e = install_ends h

      offsets : 33 + hash_size * count ≡ 14 + (19 + hash_size * count)
      offsets = omega arith

      payload : part (33 + hash_size * count) (n - (29 + hash_size * count)) f ≡ drop (14 + (19 + hash_size * count)) f
      payload = take_all (n - (29 + hash_size * count)) (drop (33 + hash_size * count) f) (rw (length-drop (33 + hash_size * count) f) (omega (arith, e.ends))) ∙ ap (λ (i : ℕ). drop i f) offsets

  install_agrees : (b c : Bool) → install_holds n f ≡ b → count_holds (kept_asked f) (word 30 f) ≡ c → Agree f (of_install n f) (if not (fields_hold install_kind f) then refused parameter else asks (fields install_kind f))
  unfolding of_install of_right installation meaning
  install_agrees true true h k =
      let e : InstallEnds f count 33 (n - (29 + hash_size * count)) = install_ends h in
      rw (install_tests, h, k)
      (record {
        means = ap asks (install_fields h);
        ends = e;
        sizes =
            record {
              handle_10 = length_part 4 handle_size f (omega (arith, e.ends));
              new_10 = length_zeros handle_size;
              key_16 = length_part 14 key_size f (omega (arith, e.ends));
            };
      })
  install_agrees true false h k = rw (install_tests, h, k) (refuses f Parameter)
  install_agrees false c h k = rw (install_tests, h) (refuses f Parameter)

  -- ---- kind 8
  byte_6 : byte 2 (body f) ≡ byte 6 f
  byte_6 = get_or-drop 4 f 2 0

  list_tests : fields_hold list_kind f ≡ list_holds n f
  list_tests = rw (byte_6, size)

  list_ends : list_holds n f ≡ true → ListEnds f (byte 6 f) 7
  list_ends h =
      let p = and_parts (leb (byte 6 f) most_hashes) (eqb n (3 + hash_size * byte 6 f)) h in
      record { few = leb_le (byte 6 f) most_hashes p.0; ends = omega (arith, long, eqb_eq n (3 + hash_size * byte 6 f) p.1) }

  list_agrees : (b : Bool) → list_holds n f ≡ b → Agree f (of_list n f) (if not (fields_hold list_kind f) then refused parameter else asks (fields list_kind f))
  unfolding of_list listing meaning
  list_agrees true h =
      rw (list_tests, h)
      (record {
        means = rw (byte_6, word_from 4 0 f, drop-drop 3 4 f) refl;
        ends = list_ends h;
        sizes = none_sized (listing f (byte 6 f)) refl refl refl;
      })
  list_agrees false h = rw (list_tests, h) (refuses f Parameter)

  -- ---- every kind, past the tests of its length and of the verdict
  fields_agree : (k : Kind) → body_fits k n ≡ true → Agree f (of_fields k n f) (if not (fields_hold k f) then refused parameter else asks (fields k f))
  unfolding one_handle two_handles meaning
  fields_agree setup_kind h = one_agrees f None (variant.Setup (word 14 f)) (asks (fields setup_kind f)) (omega (arith, long, eqb_eq n 12 h)) (rw word_10) tt
  fields_agree install_kind h = install_agrees (install_holds n f) (count_holds (kept_asked f) (word 30 f)) refl refl
  fields_agree retrieve_kind h = two_agree f variant.Retrieve (asks (fields retrieve_kind f)) (omega (arith, long, eqb_eq n 20 h)) (rw (rest 10 10 (eqb_eq n 20 h))) tt
  fields_agree rek_kind h = two_agree f variant.Rek (asks (fields rek_kind f)) (omega (arith, long, eqb_eq n 20 h)) (rw (rest 10 10 (eqb_eq n 20 h))) tt
  fields_agree enable_kind h = enable_agrees (eqb_eq n 12 h) (count_holds (kept_asked f) (word 14 f)) refl
  fields_agree remove_kind h = one_agrees f None variant.Remove (asks (fields remove_kind f)) (omega (arith, long, eqb_eq n 10 h)) (rw (rest 0 10 (eqb_eq n 10 h))) tt
  fields_agree cancel_kind h = one_agrees f None variant.Cancel (asks (fields cancel_kind f)) (omega (arith, long, eqb_eq n 10 h)) (rw (rest 0 10 (eqb_eq n 10 h))) tt
  fields_agree list_kind h = list_agrees (list_holds n f) refl
  fields_agree info_kind h = one_agrees f None variant.Info (asks (fields info_kind f)) (omega (arith, long, eqb_eq n 10 h)) (rw (rest 0 10 (eqb_eq n 10 h))) tt

  verdict_alike : (k : Kind) (v : ℕ) → (guarded k && eqb v 0) ≡ eqb (heeded k v) 0
  verdict_alike k v = go (guarded k)
    where
      go : (g : Bool) → (g && eqb v 0) ≡ eqb (if g then v else 1) 0
      go true = refl
      go false = refl

  kind_agrees : (k : Option Kind) → Agree f (of_kind k n (verdict f) f) (read_kind k f)
  unfolding of_kind
  kind_agrees none = refuses f Unsupported
  kind_agrees (some k) =
      rw (size, verdict_alike k (verdict f))
      (if_alike (Agree f) (not (body_fits k n)) (λ _. refuses f Parameter) λ h.
      if_alike (Agree f) (eqb (heeded k (verdict f)) 0) (λ _. refuses f Integrity) λ _.
      fields_agree k (not_false (body_fits k n) h))

-- ---- every frame
agrees : (f : Bytes) → Agree f (asked f) (read_request f)
unfolding asked read_request
agrees f =
    if_alike (Agree f) (not (is_frame f)) (λ _. refuses f NoFrame) λ h.
    if_alike (Agree f) (not (version_holds f && zero_bits f)) (λ _. refuses f Parameter) λ _.
    kind_agrees f (not_false (is_frame f) h) (kind_of (kind_number f))

pub answers : (f : Bytes) (r : Result Asked Why) → r ≡ asked f → Answers f r
answers f r e = record { exact = e; means = rw e (agrees f).means; ends = rw e (agrees f).ends; sizes = rw e (agrees f).sizes }
