-- The words for counts that never rise mean in the worked cases what is said there, and exclude what is said there.
use Prim.Native.Nat.{ℕ, zero, suc}
use mathlib.Core.Path.{◌≡◌, refl, ap}
use native.Mathlib.Omega.{arith}
use lib.IntN.{pos, neg_ℤ, nat_abs, pos-ne-negsuc}
use Rattle.profile.specs.Bytes.{Bytes}
use Rattle.profile.specs.Slot.{Count, None, Some, reserved, enabled, disabled}
use Rattle.profile.specs.Request.{Request, setup, install, retrieve, rek, enable, remove, cancel, list, info, number_of}
use Rattle.profile.specs.Agent.{Found, absent, one, find}
use Rattle.profile.specs.CaseBytes.{H1, H2}
use Rattle.profile.specs.RisingCases
use Rattle.profile.specs.RisingCases.{seven, slots}
use Rattle.profile.proofs.Logic.{not_equal, not_over}

-- ---- what an enablement asks, and what is found
under : Request → Bytes
under (setup h n) = h
under (install h r) = h
under (retrieve h k) = h
under (rek h k) = h
under (enable h c) = h
under (remove h) = h
under (cancel h) = h
under (list limit q) = H1
under (info h) = h

sent_in : Request → Count
sent_in (setup h n) = None
sent_in (install h r) = r.count
sent_in (retrieve h k) = None
sent_in (rek h k) = None
sent_in (enable h c) = c
sent_in (remove h) = None
sent_in (cancel h) = None
sent_in (list limit q) = None
sent_in (info h) = None

count_in : Found → Count
count_in absent = None
count_in (one i (reserved n)) = None
count_in (one i (enabled r)) = r.count
count_in (one i (disabled r)) = r.count

place_in : Found → ℕ
place_in absent = 0
place_in (one i (reserved n)) = 1
place_in (one i (enabled r)) = 2
place_in (one i (disabled r)) = 3

over_0 : (b : ℕ) → pos 1 ≡ neg_ℤ (pos b) → ⊥
over_0 zero e = not_equal 1 0 (λ t. t) (ap nat_abs e)
over_0 (suc b) e = pos-ne-negsuc 1 b e

pub rises_hold : RisingCases.Hold
unfolding under sent_in count_in place_in
rises_hold =
    record {
      fewer = omega arith;
      as_many = omega arith;
      none_still = tt;
      one_more = λ n. not_over 8 7 (λ t. t) n;
      none_for_kept = λ n. n;
      kept_for_none = λ n. n;
      raised = record { handle = H2; sent = Some 8; asks = refl; at = 2; right = seven; is_lent = refl; higher = λ n. not_over 8 7 (λ t. t) n };
      begun_again = record { handle = H2; sent = None; asks = refl; at = 2; right = seven; is_lent = refl; higher = λ n. n };
      not_raised = λ r.
          let found : find H2 slots ≡ one r.at (disabled r.right) = rw (← ap under r.asks) at r.is_lent in
          let stored : Some 7 ≡ r.right.count = ap count_in found in
          let sent : Some 7 ≡ r.sent = ap sent_in r.asks in
          r.higher (rw (← stored, ← sent) (omega arith));
      not_in_use_lem = λ r.
          let found : find H1 slots ≡ one r.at (disabled r.right) = rw (← ap under r.asks) at r.is_lent in
          not_equal 2 3 (λ t. t) (ap place_in found);
      not_removed = λ r. not_equal 6 5 (λ t. t) (ap number_of r.asks);
      at_0 = record { below = 0; is = refl };
      under_0 = record { below = 3; is = refl };
      not_over_0 = λ n. over_0 n.below n.is;
    }
