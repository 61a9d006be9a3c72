-- PROFILE 4.4, 4.5 and 8.7, of one call: what it returns, the bounds of change and total, and when 108 is given.
use Prim.Native.Nat.{◌*◌, ◌≤◌, ◌<◌}
use mathlib.Core.Path.{◌≡◌, refl, sym, ap, ◌∙◌}
use mathlib.Core.Logic.{◌↔◌}
use mathlib.Core.List.{List}
use mathlib.Core.Bool.{Bool, true, false, not, true≢false}
use native.Mathlib.Omega.{arith}
use lib.Dec.{eqb, leb, ltb}
use lib.IntN.{ℤ, nat_abs}
use lib.ListN.{length}
use Rattle.profile.specs.Bytes.{Bytes, Bytes256}
use Rattle.profile.specs.Slot.{Count, None, Some, reserved, enabled, disabled, Slot, taken}
use Rattle.profile.specs.Table.{slot_count, slots_of, whole_slots, well_table}
use Rattle.profile.specs.Tally.{tally_in, same_tally}
use Rattle.profile.specs.Frame.{kind_number, status_in}
use Rattle.profile.specs.Request.{Request, setup, install, retrieve, rek, enable, remove, cancel, list, info, Read, asks, refused, no_frame, read_request}
use Rattle.profile.specs.Agent.{Found, absent, one, find, first_empty_from, Call, Outcome, refuse, obey, on_bytes, agent}
use Rattle.profile.specs.History.{Exchange}
use Rattle.profile.specs.Run.{exchange}
use Rattle.profile.specs.Laws.{FoundIs}
use Rattle.profile.specs.Total.{Return, no_return, returned, return_from, return_by, return_in, return_of, change, counted, change_of, Totals, totals_hold, with_return, Totalled, totalling}
use Rattle.profile.specs.Totals.{Within}
use Rattle.profile.proofs.Logic.{and_parts, both, if_both, leb_le, leb_true, ltb_lt, ltb_over, ltb_false}
use Rattle.profile.proofs.Laws.{found_is}
use Rattle.profile.proofs.Frames.{ReadAs, reads}
use Rattle.profile.proofs.Signed.{difference_size, sum_size}
use Rattle.profile.proofs.SmallCounts.{Small, CountsFit, table_small, RequestSmall, request_small}

-- ---- the change of a return of counts of 16 bits
abbrev ReturnSmall : Return → Type 0
ReturnSmall no_return = Unit {0}
ReturnSmall (returned stored sent) = Small stored × Small sent

-- at most 65,535 if it is counted, and else 0
change_size : (r : Return) → ReturnSmall r → nat_abs (change r) ≤ counted r * 65535
change_size no_return s = omega arith
change_size (returned None sent) s = omega arith
change_size (returned (Some a) None) s = omega arith
change_size (returned (Some a) (Some b)) s = omega (arith, difference_size b a 65535 s.1 s.0)

pub counts_once : (r : Return) → counted r ≤ 1
counts_once no_return = omega arith
counts_once (returned None sent) = omega arith
counts_once (returned (Some a) None) = omega arith
counts_once (returned (Some a) (Some b)) = omega arith

module _ (t : List Slot) (fit : CountsFit t) where
  from_small : (h : Bytes) (c : Count) → Small c → (f : Found) → FoundIs h t f → ReturnSmall (return_from f c)
  from_small h c z absent p = tt
  from_small h c z (one i (reserved n)) p = tt
  from_small h c z (one i (enabled r)) p = tt
  from_small h c z (one i (disabled r)) p = (fit i r (record { slot = taken h (disabled r); there = p; holds = refl }), z)

  by_small : (q : Request) → RequestSmall q → ReturnSmall (return_by t q)
  by_small (setup h n) z = tt
  by_small (install h r) z = tt
  by_small (retrieve h k) z = tt
  by_small (rek h k) z = tt
  by_small (enable h c) z = from_small h c z (find h t) (found_is h t)
  by_small (remove h) z = tt
  by_small (cancel h) z = tt
  by_small (list limit q) z = tt
  by_small (info h) z = tt

  read_small : (f : Bytes) → Bytes256 f → (r : Read) → ReadAs f r → (o : Outcome) → ReturnSmall (return_in t (exchange r o))
  read_small f b (asks q) d o =
      if_both (λ (xs : List Exchange). ReturnSmall (return_in t xs)) (eqb o.number 0)
      (if_both ReturnSmall (eqb (status_in o.reply) 0) {x = return_by t q} {y = no_return} (by_small q (request_small f q b d)) tt) tt
  read_small f b (refused r) d o = tt
  read_small f b no_frame d o = tt

return_small : (table : Bytes) → CountsFit (slots_of table) → (c : Call) → Bytes256 c.request → ReturnSmall (return_of table c)
unfolding return_of
return_small table fit c b = read_small (slots_of table) fit c.request b (read_request c.request) (reads c.request) (agent table c)

pub change_within : (table : Bytes) → Bytes256 table → (c : Call) → Bytes256 c.request → nat_abs (change_of table c) ≤ 65535
change_within table b c d = omega (arith, change_size (return_of table c) (return_small table (table_small table b) c d), counts_once (return_of table c))

-- ---- without the number 0 nothing is returned
pub refused_return : (table : Bytes) (c : Call) → eqb (agent table c).number 0 ≡ false → return_of table c ≡ no_return
unfolding return_of
refused_return table c e = go (read_request c.request)
  where
    go : (r : Read) → return_in (slots_of table) (exchange r (agent table c)) ≡ no_return
    go (asks q) = rw e refl
    go (refused r) = refl
    go no_frame = refl

-- ---- the totalling call by whether its totals hold
module _ (table : Bytes) (c : Call) (t : Totals) (was : ℤ) where
  pub refused_108 : totals_hold t ≡ false → totalling table c t was ≡ record { outcome = refuse 108 table c; totals = t; change = was }
  unfolding totalling
  refused_108 e = rw e

  pub called : totals_hold t ≡ true → totalling table c t was ≡ record { outcome = agent table c; totals = with_return (return_of table c) t; change = change_of table c }
  unfolding totalling
  called e = rw e

pub change_unread : (table : Bytes) (c : Call) (t : Totals) (a b : ℤ)
    → ((totalling table c t a).outcome ≡ (totalling table c t b).outcome) × ((totalling table c t a).totals ≡ (totalling table c t b).totals)
change_unread table c t a b = go (totals_hold t) refl
  where
    go : (h : Bool) → totals_hold t ≡ h → ((totalling table c t a).outcome ≡ (totalling table c t b).outcome) × ((totalling table c t a).totals ≡ (totalling table c t b).totals)
    go false e = rw (refused_108 table c t a e, refused_108 table c t b e) (refl, refl)
    go true e = rw (called table c t a e, called table c t b e) (refl, refl)

-- ---- 108 is the totalling call's alone
abbrev NotOver : Outcome → Type 0
NotOver o = o.number ≤ 106

number_most : (table : Bytes) (c : Call) → (agent table c).number ≤ 106
unfolding agent
number_most table c =
    if_both NotOver (ltb (length c.buffer) 4279) (omega arith)
    (if_both NotOver (not (whole_slots table)) (omega arith)
    (if_both NotOver (leb (slot_count table) c.start) (omega arith)
    (if_both NotOver (not (well_table table)) (omega arith)
    (if_both NotOver (not (same_tally c.tally (tally_in table))) (omega arith) (obeys (read_request c.request))))))
  where
    obeys : (r : Read) → NotOver (on_bytes (kind_number c.request) (obey r (first_empty_from c.start (slots_of table)) (slots_of table)) table c)
    obeys (asks q) = omega arith
    obeys (refused r) = omega arith
    obeys no_frame = omega arith

pub gives_108 : (table : Bytes) (c : Call) (t : Totals) (was : ℤ) → ((totalling table c t was).outcome.number ≡ 108) ↔ (totals_hold t ≡ false)
gives_108 table c t was = (there (totals_hold t) refl, λ e. ap (λ (o : Totalled). o.outcome.number) (refused_108 table c t was e))
  where
    there : (b : Bool) → totals_hold t ≡ b → (totalling table c t was).outcome.number ≡ 108 → totals_hold t ≡ false
    there false e n = e
    there true e n = absurd (omega (arith, number_most table c, sym (ap (λ (o : Totalled). o.outcome.number) (called table c t was e)) ∙ n))

-- ---- the bounds of a total
hold_parts : (t : Totals) → totals_hold t ≡ true → (t.returns < 30000) × (nat_abs t.total ≤ t.returns * 65535)
hold_parts t e =
    let p = and_parts (ltb t.returns 30000) (leb (nat_abs t.total) (t.returns * 65535)) e in
    (ltb_lt t.returns 30000 p.0, leb_le (nat_abs t.total) (t.returns * 65535) p.1)

pub with_within : (t : Totals) → totals_hold t ≡ true → (r : Return) → ReturnSmall r → Within (with_return r t)
with_within t e r s =
    let p = hold_parts t e in
    record {
      few = omega (arith, p.0, counts_once r);
      bound = omega (arith, p.1, sum_size t.total (change r), change_size r s);
    }

pub step_within : (table : Bytes) → CountsFit (slots_of table) → (c : Call) → Bytes256 c.request → (t : Totals) (was : ℤ) → Within t → Within (totalling table c t was).totals
step_within table fit c b t was w = go (totals_hold t) refl
  where
    go : (h : Bool) → totals_hold t ≡ h → Within (totalling table c t was).totals
    go false e = rw (refused_108 table c t was e) w
    go true e = rw (called table c t was e) (with_within t e (return_of table c) (return_small table fit c b))

pub stays_within : (table : Bytes) → Bytes256 table → (c : Call) → Bytes256 c.request → (t : Totals) (was : ℤ) → Within t → Within (totalling table c t was).totals
stays_within table b c d t was w = step_within table (table_small table b) c d t was w

-- totals within the bounds are refused exactly where 30,000 returns are counted
pub full_totals : (t : Totals) → Within t → (totals_hold t ≡ false) ↔ (t.returns ≡ 30000)
full_totals t w = (λ e. there (ltb t.returns 30000) refl e, λ e. rw (ltb_false t.returns 30000 (omega (arith, e))) refl)
  where
    there : (b : Bool) → ltb t.returns 30000 ≡ b → totals_hold t ≡ false → t.returns ≡ 30000
    there true p e = absurd (true≢false (sym (both p (leb_true (nat_abs t.total) (t.returns * 65535) w.bound)) ∙ e))
    there false p e = omega (arith, w.few, ltb_over t.returns 30000 p)
