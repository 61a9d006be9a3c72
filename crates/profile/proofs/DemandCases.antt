-- The words of PROFILE 8.3 mean in the worked cases what is said there, and exclude what is said there: computed.
use Prim.Native.Nat.{ℕ, zero, suc, ◌≤◌}
use mathlib.Core.Path.{◌≡◌, refl, sym, ap}
use mathlib.Core.List.{List, [], ◌∷◌, cons≢nil}
use mathlib.Core.Option.{some, some-injective}
use native.Mathlib.Omega.{arith}
use lib.ListN.{length, get_or, get_elem?}
use Rattle.profile.specs.Bytes.{Bytes, byte, zeros, over, In}
use Rattle.profile.specs.Table.{unpack, image, pack, well_rest, well_slot, slot_bytes, slots_of, table_of, whole_slots, well_table}
use Rattle.profile.specs.Slot.{kept_bit, count_number, reserved, enabled, disabled, Slot, empty, taken}
use Rattle.profile.specs.Tally.{tally_of}
use Rattle.profile.specs.Frame.{frame}
use Rattle.profile.specs.Request.{Request, rek, retrieve, read_request, number_of}
use Rattle.profile.specs.Agent.{first_empty_from, act, reply_frame, agent}
use Rattle.profile.specs.History.{Exchange}
use Rattle.profile.specs.CaseBytes.{H1, H2, H3, H4}
use Rattle.profile.specs.HistoryCases.{plain}
use Rattle.profile.specs.Demand3.{Lends, by_rek, by_retrieval}
use Rattle.profile.specs.DemandCases
use Rattle.profile.proofs.Logic.{not_equal, not_over}
use Rattle.profile.proofs.FirstEmpty.{not_there}

-- ---- numbers that tell values apart
slot_number : Slot → ℕ
slot_number empty = 0
slot_number (taken h (reserved n)) = 1
slot_number (taken h (enabled r)) = 2
slot_number (taken h (disabled r)) = 3

pub in_one : {A : Type 0} (x y : A) → In x (y ∷ []) → y ≡ x
in_one x y m = at m.0 m.1
  where
    at : (i : ℕ) → get_elem? (y ∷ []) i ≡ some x → y ≡ x
    at zero p = some-injective y x p
    at (suc i) p = absurd (not_there p)

first_status : List Exchange → ℕ
first_status [] = 9
first_status (x ∷ xs) = x.status

first_kind : List Exchange → ℕ
first_kind [] = 0
first_kind (x ∷ xs) = number_of x.request

lends_small : {q : Request} {h k : Bytes} → Lends q h k → number_of q ≤ 4
lends_small by_retrieval = omega arith
lends_small by_rek = omega arith

pub demands_hold : DemandCases.Hold
unfolding slot_number first_status first_kind agent whole_slots zeros well_table slot_bytes well_rest well_slot slots_of unpack read_request over reply_frame frame first_empty_from act table_of pack image tally_of
demands_hold =
    record {
      read_off = refl;
      goes_on = refl;
      missing = λ r. not_equal 0 2 (λ t. t) (ap slot_number (in_one (taken H1 (enabled plain)) empty ((r.used H1 plain).1 (0, refl))));
      untold = λ r. not_there ((r.used H1 plain).0 (0, refl)).1;
      not_set_up = λ r. not_there ((r.awaited H1 5).0 (0, refl)).1;
      not_lent = λ r. not_equal 2 3 (λ t. t) (ap slot_number (in_one (taken H1 (disabled plain)) (taken H1 (enabled plain)) ((r.away H1 plain).1 (0, refl))));
      twice = λ r. not_equal 0 1 (λ t. t) (r.apart 0 1 H1 (enabled plain) (enabled plain) refl refl);
      lost = λ c. not_equal 0 1 (λ t. t) c.as_many;
      refused = λ c. not_equal 1 0 (λ t. t) c.as_many;
      other_key = λ c. not_equal 0xE0 1 (λ t. t) (ap (byte 0) (c.came 0 _ _ refl refl).key);
      other_hash = λ c. not_equal 0x40 0xA0 (λ t. t) (ap (λ (hs : List Bytes). byte 0 (get_or hs 0 [])) (c.came 0 _ _ refl refl).hashes);
      other_payload = λ c. not_equal 1 5 (λ t. t) (ap (λ (p : Bytes). length p) (c.came 0 _ _ refl refl).payload);
      other_count = λ c. not_equal 8 7 (λ t. t) (ap count_number (c.came 0 _ _ refl refl).count);
      other_bit = λ c. not_equal 0 1 (λ t. t) (ap kept_bit (c.came 0 _ _ refl refl).count);
      another = λ c. not_equal 0xE0 1 (λ t. t) (ap (byte 0) (c.stood 0 _ _ refl refl).key);
      not_returned = λ c. not_equal 7 3 (λ t. t) (ap count_number (c.stood 0 _ _ refl refl).count);
      out_of_order = λ c. not_equal 1 5 (λ t. t) (ap (λ (p : Bytes). length p) (c.stood 0 _ _ refl refl).payload);
      one_too_many = λ c. not_equal 2 1 (λ t. t) c.as_many;
      counts_then = refl;
      by_rek = record { asked = rek H1 H2; lends = by_rek; success = refl };
      by_retrieval = record { asked = retrieve H3 H4; lends = by_retrieval; success = refl };
      absent = λ o. not_equal 4 0 (λ t. t) (ap first_status o.success);
      by_info = λ o. not_over 9 4 (λ t. t) (rw (sym (ap first_kind o.success)) at (lends_small o.lends));
      other_tally = λ o. cons≢nil (sym o.success);
      returns = refl;
      refused_return = refl;
      sent = refl;
      named = refl;
      after_each = refl;
      last_counts = refl;
      sent_again = refl;
      no_longer = refl;
      used_up = refl;
      given_up = refl;
      holds = refl;
      alike =
          record {
            whole = refl;
            well = refl;
            other_whole = refl;
            other_well = refl;
            alike = ((refl, refl, ((refl, refl, ((refl, refl, ((refl, refl, tt))))))));
          };
      other_handle = λ a. not_equal 1 2 (λ t. t) (ap (byte 10) a.alike.0);
      other_number = λ a. not_equal 0 1 (λ t. t) (ap (byte 0) a.alike.1);
      other_slots = λ a. a.alike.2;
    }
