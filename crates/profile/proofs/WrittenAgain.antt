-- PROFILE 6.4: a frame that reads as a request is written again, by the device's writer and from the fields read, to the same bytes, but for a verdict of 0 in kinds 8 and 9.
use Prim.Native.Nat.{ℕ, ◌+◌, ◌*◌, ◌/◌, ◌%◌, ◌≤◌}
use mathlib.Core.Path.{◌≡◌, refl, sym, ap, ap₂, ◌∙◌}
use mathlib.Core.List.{List, [], ◌∷◌, append-nil}
use mathlib.Core.Option.{some}
use mathlib.Core.Bool.{Bool, true, false, ◌&&◌, not}
use native.Mathlib.Omega.{arith}
use lib.Dec.{eqb, leb}
use lib.ListN.{length, drop, length-drop}
use lib.Seq.{drop-cons}
use Rattle.profile.specs.Bytes.{Bytes, Bytes256, byte, word, zeros, over, joined, pieces}
use Rattle.profile.specs.Sizes.{hash_size, most_hashes}
use Rattle.profile.specs.Slot.{Count, kept_bit, count_number, count_holds, HashesFit}
use Rattle.profile.specs.Frame.{Kind, setup_kind, install_kind, retrieve_kind, rek_kind, enable_kind, remove_kind, cancel_kind, list_kind, info_kind, kind_of, kind_number}
use Rattle.profile.specs.Request.{Request, setup, install, retrieve, rek, enable, remove, cancel, list, info, asks, verdict, guarded, fields, read_request, with_verdict, RequestFits}
use Rattle.profile.specs.Device.{none?, whole_hashes, kind_holds, request_of, fields_with, fields_in, Arrays, Written, write}
use Rattle.profile.specs.Theorems.{WrittenAgain}
use Rattle.profile.proofs.Logic.{both, and_parts, eqb_true, leb_le, leb_true, ltb_false, from_1_to, positive}
use Rattle.profile.proofs.Strings.{length_zeros, length_each, pieces_joined}
use Rattle.profile.proofs.Counts.{kept_small, count_holds_lem, count_back}
use Rattle.profile.proofs.Frames.{Reads, reads}
use Rattle.profile.proofs.Requests.{read_fits, kind_number_lem, write_reads}

-- ---- the fields of a request, written
kind_for : Request → Kind
kind_for (setup h n) = setup_kind
kind_for (install h r) = install_kind
kind_for (retrieve h k) = retrieve_kind
kind_for (rek h k) = rek_kind
kind_for (enable h c) = enable_kind
kind_for (remove h) = remove_kind
kind_for (cancel h) = cancel_kind
kind_for (list limit q) = list_kind
kind_for (info h) = info_kind

kind_for_lem : (k : Kind) (f : Bytes) → kind_for (fields k f) ≡ k
unfolding kind_for
kind_for_lem setup_kind f = refl
kind_for_lem install_kind f = refl
kind_for_lem retrieve_kind f = refl
kind_for_lem rek_kind f = refl
kind_for_lem enable_kind f = refl
kind_for_lem remove_kind f = refl
kind_for_lem cancel_kind f = refl
kind_for_lem list_kind f = refl
kind_for_lem info_kind f = refl

module _ (hs : List Bytes) (z : HashesFit hash_size most_hashes hs) where
  size : length (joined hs) ≡ 20 * length hs
  size = length_each 20 hs z.each

  pub whole : whole_hashes (joined hs) ≡ true
  whole =
      both (eqb_true (length (joined hs) % 20) 0 (omega (arith, size)))
      (leb_true (length (joined hs) / 20) 8 (omega (arith, size, z.few)))

  pub cut_again : pieces hash_size (length (joined hs) / hash_size) (joined hs) ≡ hs
  cut_again =
      let n : length (joined hs) / 20 ≡ length hs = omega (arith, size) in
      rw n (ap (pieces hash_size (length hs)) (sym (append-nil (joined hs))) ∙ pieces_joined hash_size hs [] z.each)

some_bytes : (s : Bytes) → 1 ≤ length s → not (none? s) ≡ true
some_bytes [] h = absurd (omega (arith, h))
some_bytes (x ∷ s) h = refl

-- a count's number and bit say a count
count_said : (c : Count) → (leb (kept_bit c) 1 && count_holds (kept_bit c) (count_number c)) ≡ true
count_said c = both (leb_true (kept_bit c) 1 (omega (arith, kept_small c))) (count_holds_lem c)

allowed : (q : Request) → RequestFits q → (whole_hashes (fields_in q).hashes && kind_holds (kind_for q) (fields_in q)) ≡ true
unfolding kind_for zeros
allowed (setup h n) z = refl
allowed (install h r) z =
    both (whole r.hashes z.1.fits.room.hashed) (both
    (both (count_said r.count) (some_bytes (joined r.hashes) (omega (arith, size r.hashes z.1.fits.room.hashed, z.1.some_hash))))
    (from_1_to {n = length r.payload} {m = 4096} z.1.fits.some_payload z.1.fits.room.short))
allowed (retrieve h k) z = refl
allowed (rek h k) z = refl
allowed (enable h c) z = count_said c
allowed (remove h) z = refl
allowed (cancel h) z = refl
allowed (list limit q) z = both (whole q z) refl
allowed (info h) z = refl

back : (q : Request) → RequestFits q → request_of (kind_for q) (fields_in q) ≡ q
unfolding kind_for
back (setup h n) z = refl
back (install h r) z =
    ap₂ {C = Request} (λ (c : Count) (hs : List Bytes). install h (record { key = r.key; count = c; hashes = hs; payload = r.payload }))
    (count_back r.count) (cut_again r.hashes z.1.fits.room.hashed)
back (retrieve h k) z = refl
back (rek h k) z = refl
back (enable h c) z = ap {B = Request} (enable h) (count_back c)
back (remove h) z = refl
back (cancel h) z = refl
back (list limit q) z = ap {B = Request} (list limit) (cut_again q z)
back (info h) z = refl

arrays_with : (h k key : Bytes) (room c bit limit : ℕ) (hashes payload : Bytes)
    → length h ≡ 10 → length k ≡ 10 → length key ≡ 16 → Arrays (fields_with h k key room c bit limit hashes payload)
arrays_with h k key room c bit limit hashes payload a b d = record { handle_10 = a; new_10 = b; key_16 = d }

arrays : (q : Request) → RequestFits q → Arrays (fields_in q)
arrays (setup h n) z = arrays_with _ _ _ _ _ _ _ _ _ z (length_zeros 10) (length_zeros 16)
arrays (install h r) z = arrays_with _ _ _ _ _ _ _ _ _ z.0 (length_zeros 10) z.1.fits.room.key_16
arrays (retrieve h k) z = arrays_with _ _ _ _ _ _ _ _ _ z.0 z.1 (length_zeros 16)
arrays (rek h k) z = arrays_with _ _ _ _ _ _ _ _ _ z.0 z.1 (length_zeros 16)
arrays (enable h c) z = arrays_with _ _ _ _ _ _ _ _ _ z (length_zeros 10) (length_zeros 16)
arrays (remove h) z = arrays_with _ _ _ _ _ _ _ _ _ z (length_zeros 10) (length_zeros 16)
arrays (cancel h) z = arrays_with _ _ _ _ _ _ _ _ _ z (length_zeros 10) (length_zeros 16)
arrays (list limit q) z = arrays_with _ _ _ _ _ _ _ _ _ (length_zeros 10) (length_zeros 10) (length_zeros 16)
arrays (info h) z = arrays_with _ _ _ _ _ _ _ _ _ z (length_zeros 10) (length_zeros 16)

-- ---- the verdict
-- kinds 1 to 7 ask for it
asks_verdict : (n : ℕ) (k : Kind) → kind_of n ≡ some k → n ≤ 7 → guarded k ≡ true
asks_verdict n setup_kind e h = refl
asks_verdict n install_kind e h = refl
asks_verdict n retrieve_kind e h = refl
asks_verdict n rek_kind e h = refl
asks_verdict n enable_kind e h = refl
asks_verdict n remove_kind e h = refl
asks_verdict n cancel_kind e h = refl
asks_verdict n list_kind e h = absurd (omega (arith, h, kind_number_lem n list_kind e []))
asks_verdict n info_kind e h = absurd (omega (arith, h, kind_number_lem n info_kind e []))

module _ (f : Bytes) (q : Request) (y : Bytes256 f) (r : Reads f q) where
  long : 4 ≤ length f
  long = leb_le 4 (length f) (and_parts (leb 4 (length f)) (eqb (length f) (4 + word 2 f)) r.is_frame_lem).0

  cut_2 : f ≡ byte 0 f ∷ byte 1 f ∷ drop 2 f
  cut_2 = drop-cons f 0 0 (omega (arith, long)) ∙ ap {B = Bytes} (λ (t : Bytes). byte 0 f ∷ t) (drop-cons f 1 0 (omega (arith, long)))

  -- a frame whose verdict is 1 is the same with its verdict made 1
  held : kind_number f ≤ 7 → with_verdict f ≡ f
  held h =
      let t : eqb (verdict f) 0 ≡ false = ap (λ (b : Bool). b && eqb (verdict f) 0) (sym (asks_verdict (kind_number f) r.kind r.number h)) ∙ r.trusted in
      let v : 128 + byte 1 f % 128 ≡ byte 1 f = omega (arith, positive (byte 1 f / 128) t, y 1) in
      ap {B = Bytes} (λ (b : ℕ). byte 0 f ∷ b ∷ drop 2 f) v ∙ sym cut_2

  as_long : length (with_verdict f) ≡ length f
  as_long = rw (length-drop 2 f) (omega (arith, long))

  again : (buffer : Bytes) → length f ≤ length buffer → write (kind_number f) (fields_in q) buffer ≡ record { number = 0; buffer = over (with_verdict f) buffer }
  unfolding write
  again buffer h =
      let z : RequestFits q = read_fits f q r in
      let k : kind_for q ≡ r.kind = ap kind_for r.is ∙ kind_for_lem r.kind f in
      rw (r.number, ← k, allowed q z, back q z, write_reads f q y r, as_long, ltb_false (length buffer) (length f) h)

pub written_again : (f : Bytes) (q : Request) → Bytes256 f → read_request f ≡ asks q → (buffer : Bytes) → length f ≤ length buffer → WrittenAgain f q buffer
written_again f q y e buffer h =
    record {
      arrays = arrays q (read_fits f q r);
      same_bytes = λ n. again f q y r buffer h ∙ ap {B = Written} (λ (x : Bytes). record { number = 0; buffer = over x buffer }) (held f q y r n);
      but_verdict = again f q y r buffer h;
    }
  where
    r : Reads f q
    r = rw e at (reads f)
