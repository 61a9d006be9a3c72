-- The words of PROFILE 8.4 mean in the worked cases what is said there, and exclude what is said there: computed.
use Prim.Native.Nat.{ℕ, zero, suc, ◌+◌, ◌*◌}
use mathlib.Core.Path.{◌≡◌, refl, sym, ap, ap₂, ◌∙◌}
use mathlib.Core.List.{List, [], ◌∷◌, ◌++◌, map, head-eq_of_cons-eq, append-nil}
use mathlib.Core.Option.{some}
use mathlib.Core.Bool.{Bool, true, false, true≢false}
use native.Mathlib.Omega.{arith}
use lib.Dec.{ltb}
use lib.ListN.{length, drop, get_elem?}
use lib.Seq.{drop_at}
use Rattle.std.specs.Prelude.{if◌then◌else◌}
use Rattle.profile.specs.Bytes.{Bytes, byte, word, zeros, same, over, joined, In, pieces, Each}
use Rattle.profile.specs.Slot.{Entry, reserved, enabled, disabled, Slot, empty, taken}
use Rattle.profile.specs.Table.{unpack, image, pack, well_rest, well_slot, slot_bytes, slots_of, table_of, whole_slots, well_table}
use Rattle.profile.specs.Tally.{Tally, tally_of}
use Rattle.profile.specs.Frame.{frame}
use Rattle.profile.specs.Request.{Read, asks, refused, no_frame, read_request, number_of, write_body}
use Rattle.profile.specs.Agent.{first_empty_from, act, reply_frame, agent}
use Rattle.profile.specs.Run.{under_slots}
use Rattle.profile.specs.CaseBytes.{H1, H2, H3}
use Rattle.profile.specs.CaseTables.{blank, after7, hashed1}
use Rattle.profile.specs.Starts.{OtherStart, SameList}
use Rattle.profile.specs.StartCases
use Rattle.profile.proofs.Logic.{not_equal, same_refl, split}
use Rattle.profile.proofs.Strings.{bytes_256, length_each, pieces_joined}
use Rattle.profile.proofs.FirstEmpty.{not_there, empty_not_taken}
use Rattle.profile.proofs.Laws.{same_handle, found_is}
use Rattle.profile.proofs.DemandCases.{in_one}

-- ---- numbers that tell values apart
payload_for_use : Entry → ℕ
payload_for_use (reserved n) = 0
payload_for_use (enabled r) = length r.payload
payload_for_use (disabled r) = 0

kind_read : Read → ℕ
kind_read (asks q) = number_of q
kind_read (refused r) = 0
kind_read no_frame = 0

-- behind a list reply the buffer's bytes stay
behind : {q : List Bytes} {t u : List Slot} {buffer reply other : Bytes} → SameList q t u buffer reply other → drop (4 + word 2 other) other ≡ drop (4 + word 2 other) buffer
unfolding over frame
behind {buffer = buffer} s = rw s.other_replies (stays (4 + word 2 (over sent buffer)) (omega arith))
  where
    sent : Bytes
    sent = frame 8 0 ((if s.more then 128 else 0) ∷ joined s.other_listed)

    stays : (n : ℕ) → length sent ≡ n → drop n (over sent buffer) ≡ drop n buffer
    stays n e = drop_at sent (drop (length sent) buffer) n e ∙ ap (λ (m : ℕ). drop m buffer) e

-- ---- other starts, and tables that hold the same records in other slots
started : {n a b : ℕ} {y : Tally} {f : Bytes} → ltb a n ≡ ltb b n → OtherStart n (StartCases.calling y a f) (StartCases.calling y b f)
started e = record { tallies_agree = refl; same_request = refl; same_buffer = refl; both_inside = e }

-- a record under one handle, and one under another, in either order
either_order : (h k l : Bytes) (e f : Entry) → same k l ≡ false → under_slots h (taken k e ∷ taken l f ∷ empty ∷ []) ≡ under_slots h (taken l f ∷ empty ∷ taken k e ∷ [])
either_order h k l e f n = split h k (λ p. rw (p, same_refl k, n)) (λ p. rw p)

-- ---- the handles in a list reply that fills its buffer, of slots whose handles have ten bytes
abbrev TenEach : List Slot → Type 0
TenEach [] = Unit {0}
TenEach (empty ∷ t) = TenEach t
TenEach (taken h e ∷ t) = (length h ≡ 10) × TenEach t

ten_at : (t : List Slot) → TenEach t → (i : ℕ) (h : Bytes) (e : Entry) → get_elem? t i ≡ some (taken h e) → length h ≡ 10
ten_at [] f i h e p = absurd (not_there p)
ten_at (empty ∷ t) f zero h e p = absurd (empty_not_taken p)
ten_at (empty ∷ t) f (suc i) h e p = ten_at t f i h e p
ten_at (taken k x ∷ t) f zero h e p = ap length (sym (same_handle p)) ∙ f.0
ten_at (taken k x ∷ t) f (suc i) h e p = ten_at t f.1 i h e p

each_in : (hs : List Bytes) → ((h : Bytes) → In h hs → length h ≡ 10) → Each 10 hs
each_in [] f = tt
each_in (k ∷ hs) f = (f k (0, refl), each_in hs (λ h m. f h (suc m.0, m.1)))

abbrev list_back : {q : List Bytes} {t u : List Slot} {buffer reply other : Bytes} → SameList q t u buffer reply other → SameList q u t buffer other reply
list_back s =
    record {
      more = s.more;
      listed = s.other_listed;
      other_listed = s.listed;
      replies = s.other_replies;
      other_replies = s.replies;
      as_many = sym s.as_many;
      shown = s.other_shown;
      other_shown = s.shown;
      same_handles = λ e h. ((s.same_handles e h).1, (s.same_handles e h).0);
    }

module _ {q : List Bytes} {t u : List Slot} {reply other : Bytes} (s : SameList q t u [] reply other) where
  more_is : byte 4 reply ≡ (if s.more then 128 else 0)
  unfolding over frame
  more_is = ap (byte 4) s.replies

  none_more : byte 4 reply ≡ 0 → s.more ≡ false
  none_more e = go s.more (sym more_is ∙ e)
    where
      go : (b : Bool) → ◌≡◌ {A = ℕ} (if b then 128 else 0) 0 → b ≡ false
      go true p = absurd (omega (arith, p))
      go false p = refl

  ten_listed : TenEach u → Each 10 s.listed
  ten_listed f = each_in s.listed (λ h m. let w = s.shown h m in ten_at u f w.slot h (enabled w.right) w.stands)

  bytes_listed : drop 5 reply ≡ joined s.listed ++ []
  unfolding over frame
  bytes_listed = ap (drop 5) s.replies

  size_listed : TenEach u → length (drop 5 reply) ≡ 10 * length s.listed
  size_listed f = ap length (bytes_listed ∙ append-nil (joined s.listed)) ∙ length_each 10 s.listed (ten_listed f)

  listed_is : TenEach u → (n : ℕ) → length (drop 5 reply) ≡ 10 * n → s.listed ≡ pieces 10 n (drop 5 reply)
  listed_is f n e =
      let many : length s.listed ≡ n = omega (arith, e, size_listed f) in
      sym (pieces_joined 10 s.listed [] (ten_listed f)) ∙ ap₂ (pieces 10) many (sym bytes_listed)

pub starts_hold : StartCases.Hold
unfolding payload_for_use kind_read agent whole_slots zeros well_table slot_bytes well_rest well_slot slots_of unpack read_request over reply_frame frame first_empty_from act table_of pack image tally_of
starts_hold =
    record {
      from_0 = refl;
      from_2 = refl;
      list_0 = refl;
      list_2 = refl;
      one_0 = refl;
      one_2 = refl;
      other_right = λ s. not_equal 5 1 (λ t. t) (head-eq_of_cons-eq (ap (map payload_for_use) (s.each H1)));
      other_place = λ s. not_equal 5 0 (λ t. t) (head-eq_of_cons-eq (ap (map payload_for_use) (s.each H1)));
      other_handle = λ s. not_equal 1 0 (λ t. t) (ap length (s.each H1));
      lost = λ s. not_equal 1 0 (λ t. t) (ap length (s.each H1));
      more_slots = λ s. not_equal 1 2 (λ t. t) s.as_many;
      alike =
          record {
            bytes = bytes_256 (after7 ++ hashed1 ++ blank) tt;
            whole = refl;
            well = refl;
            other_bytes = bytes_256 (hashed1 ++ blank ++ after7) tt;
            other_whole = refl;
            other_well = refl;
            records = record { as_many = refl; each = λ h. either_order h H1 H3 _ _ refl };
          };
      two_runs = (started refl, (started refl, (started refl, (started refl, tt))));
      both_outside = started refl;
      other_tally = λ o. not_equal 2 0 (λ t. t) (ap (λ (y : Tally). y.empty) o.tallies_agree);
      other_frame = λ o. not_equal 1 2 (λ t. t) (ap (byte 4) o.same_request);
      other_buffer = λ o. not_equal 0xAA 0xBB (λ t. t) (ap (byte 0) o.same_buffer);
      one_outside = λ o. true≢false o.both_inside;
      call_number = λ s. not_equal 0 102 (λ t. t) s.number;
      call_status = λ s. not_equal 0 4 (λ t. t) (head-eq_of_cons-eq (ap (map (λ x. x.status)) s.exchange));
      call_records = λ s. not_equal 1 2 (λ t. t) s.records.as_many;
      call_tally = λ s. not_equal 1 2 (λ t. t) (ap (λ (y : Tally). y.empty) s.tally);
      call_reply = λ s. not_equal 0xAA 0xBB (λ t. t) (ap (byte 4278) (s.reply (λ limit q e. not_equal 9 8 (λ t. t) (ap kind_read e))));
      call_list = λ s. not_equal 0xBB 0xAA (λ t. t) (ap (byte 0) (behind (s.lists _ _ refl refl)));
      run_number = λ r. not_equal 1 0 (λ t. t) (ap length r.same_numbers);
      run_exchange = λ r. not_equal 1 2 (λ t. t) (head-eq_of_cons-eq (ap (map (λ x. byte 0 (write_body x.request))) r.same_exchanges));
      run_records = λ r. not_equal 1 2 (λ t. t) r.records.as_many;
      both_gone = record { same_numbers = refl; same_exchanges = refl; same_ledger = λ _. refl; records = record { as_many = refl; each = λ _. refl } };
      list_more = λ s. not_equal 128 0 (λ t. t) (more_is s ∙ sym (more_is (list_back s)));
      list_fewer = λ s. omega (arith, size_listed s (refl, (refl, tt)), size_listed (list_back s) (refl, (refl, tt)), s.as_many);
      list_unknown = λ s.
          let w = s.shown H2 (rw (listed_is s (refl, (refl, tt)) 1 refl) (0, refl)) in
          found_is H2 StartCases.there w.slot (enabled w.right) w.stands;
      list_other = λ s.
          let m = (s.same_handles (none_more s refl) H1).0 (rw (listed_is s (refl, (refl, tt)) 1 refl) (0, refl)) in
          not_equal 3 1 (λ t. t) (ap (byte 0) (in_one H1 H3 (rw (listed_is (list_back s) (refl, (refl, tt)) 1 refl) at m)));
    }
