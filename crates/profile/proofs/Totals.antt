-- PROFILE 8.7, along a sequence of totalling calls: the ledger tells what each call returns, and so the totals.
use Prim.Native.Nat.{ℕ, ◌+◌, ◌*◌, ◌≤◌}
use mathlib.Core.Path.{◌≡◌, refl, sym, ap, ap₂, ◌∙◌}
use mathlib.Core.Logic.{◌↔◌, inl, inr}
use mathlib.Core.List.{List, [], ◌∷◌, ◌++◌, map}
use mathlib.Core.Bool.{Bool, true, false}
use native.Mathlib.Omega.{arith}
use lib.Dec.{eqb}
use lib.IntN.{ℤ, pos, ◌+ℤ◌, +ℤ_idl, +ℤ_idr, +ℤ_assoc}
use Rattle.std.specs.Prelude.{if◌then◌else◌}
use Rattle.profile.specs.Bytes.{Bytes, Bytes256, same, joined}
use Rattle.profile.specs.Sizes.{slot_size}
use Rattle.profile.specs.Slot.{Count, Entry, reserved, enabled, disabled, Slot}
use Rattle.profile.specs.Table.{slots_of, whole_slots, well_table}
use Rattle.profile.specs.Frame.{status_in}
use Rattle.profile.specs.Request.{Request, setup, install, retrieve, rek, enable, remove, cancel, list, info, Read, asks, refused, no_frame, read_request}
use Rattle.profile.specs.Agent.{Found, absent, one, find, Call, Outcome, refuse, agent}
use Rattle.profile.specs.History.{Opened, open_setup, Owned, for_use, lent, gone, Ledger, blank_ledger, Exchange, told, history}
use Rattle.profile.specs.Run.{exchange, exchange_of, exchanges, table_then, blank_table, ledger_of, under_setup, under_right, under_slots, under_ledger, Agrees}
use Rattle.profile.specs.Total.{Return, no_return, return_from, return_by, return_in, return_of, change, counted, change_of, Totals, totals_hold, with_return, Totalled, totalling}
use Rattle.profile.specs.Totals.{Within, lent_count, return_of_lent, return_told, returns_told, changes_of, counted_in, step, totals_then, table_totalled, calls_made, FrameBytes, no_totals, TotalsTold, TotalsFrom}
use Rattle.profile.proofs.Logic.{if_both, if_two}
use Rattle.profile.proofs.Strings.{bytes_zeros}
use Rattle.profile.proofs.Tables.{slots_table}
use Rattle.profile.proofs.Lookup.{Looked, find_looked}
use Rattle.profile.proofs.Calls.{Comes}
use Rattle.profile.proofs.Fitting.{fitting}
use Rattle.profile.proofs.Requests.{read_fits}
use Rattle.profile.proofs.Sound.{Sound, sound_comes, sound_call, sound_blank, sound_agrees}
use Rattle.profile.proofs.AnyTable.{sound_table}
use Rattle.profile.proofs.SmallCounts.{CountsFit, table_small, request_small, does_small}
use Rattle.profile.proofs.Total.{refused_108, called, gives_108, step_within, full_totals}

-- ---- the count of a lent right, by the slots and by the ledger
lent_entry : Entry → List Count
lent_entry (reserved n) = []
lent_entry (enabled r) = []
lent_entry (disabled r) = r.count ∷ []

lent_in : List Entry → List Count
lent_in es = joined (map lent_entry es)

lent_append : (a b : List Entry) → lent_in (a ++ b) ≡ lent_in a ++ lent_in b
unfolding lent_in lent_entry
lent_append [] b = refl
lent_append (reserved n ∷ a) b = lent_append a b
lent_append (enabled r ∷ a) b = lent_append a b
lent_append (disabled r ∷ a) b = ap (λ (cs : List Count). r.count ∷ cs) (lent_append a b)

lent_setups : (h : Bytes) (s : List Opened) → lent_in (joined (map (under_setup h) s)) ≡ []
unfolding lent_in lent_entry
lent_setups h [] = refl
lent_setups h (open_setup k n ∷ s) = if_both (λ (es : List Entry). lent_in (es ++ joined (map (under_setup h) s)) ≡ []) (same h k) (lent_setups h s) (lent_setups h s)

lent_rights : (h : Bytes) (os : List Owned) → lent_in (joined (map (under_right h) os)) ≡ joined (map (lent_count h) os)
unfolding lent_in lent_entry
lent_rights h [] = refl
lent_rights h (for_use k r ∷ os) =
    if_both (λ (es : List Entry). lent_in (es ++ joined (map (under_right h) os)) ≡ joined (map (lent_count h) os)) (same h k) (lent_rights h os) (lent_rights h os)
lent_rights h (lent k r ∷ os) =
    if_two (λ (es : List Entry) (cs : List Count). lent_in (es ++ joined (map (under_right h) os)) ≡ cs ++ joined (map (lent_count h) os)) (same h k)
    (ap (λ (cs : List Count). r.count ∷ cs) (lent_rights h os)) (λ _. lent_rights h os)
lent_rights h (gone r ∷ os) = lent_rights h os

lent_ledger : (h : Bytes) (l : Ledger) → lent_in (under_ledger h l) ≡ joined (map (lent_count h) l.rights)
lent_ledger h l =
    lent_append (joined (map (under_setup h) l.setups)) (joined (map (under_right h) l.rights))
    ∙ ap (λ (cs : List Count). cs ++ lent_in (joined (map (under_right h) l.rights))) (lent_setups h l.setups)
    ∙ lent_rights h l.rights

-- ---- what a success returns is what the ledger tells
from_lent : (h : Bytes) (t : List Slot) (c : Count) (f : Found) → Looked h t f → return_from f c ≡ return_of_lent (lent_in (under_slots h t)) c
unfolding lent_in lent_entry
from_lent h t c absent p = rw p refl
from_lent h t c (one i (reserved n)) p = rw p.0 refl
from_lent h t c (one i (enabled r)) p = rw p.0 refl
from_lent h t c (one i (disabled r)) p = rw p.0 refl

module _ (l : Ledger) (t : List Slot) (a : Agrees l t) where
  by_told : (q : Request) → return_by t q ≡ return_told l q
  by_told (setup h n) = refl
  by_told (install h r) = refl
  by_told (retrieve h k) = refl
  by_told (rek h k) = refl
  by_told (enable h c) =
      from_lent h t c (find h t) (find_looked h t (a.once h))
      ∙ ap (λ (cs : List Count). return_of_lent cs c) (ap lent_in (a.each h) ∙ lent_ledger h l)
  by_told (remove h) = refl
  by_told (cancel h) = refl
  by_told (list limit q) = refl
  by_told (info h) = refl

  -- a call has one exchange at most
  told_changes : (r : Read) (o : Outcome) → changes_of (returns_told l (exchange r o)) ≡ change (return_in t (exchange r o))
  told_changes (asks q) o = go (eqb o.number 0)
    where
      told_one : (b : Bool) → change (if b then return_told l q else no_return) +ℤ pos 0 ≡ change (if b then return_by t q else no_return)
      told_one true = +ℤ_idr (change (return_told l q)) ∙ ap change (sym (by_told q))
      told_one false = refl

      go : (b : Bool) → changes_of (returns_told l (if b then record { request = q; status = status_in o.reply } ∷ [] else [])) ≡ change (return_in t (if b then record { request = q; status = status_in o.reply } ∷ [] else []))
      go true = told_one (eqb (status_in o.reply) 0)
      go false = refl
  told_changes (refused r) o = refl
  told_changes no_frame o = refl

  told_counted : (r : Read) (o : Outcome) → counted_in (returns_told l (exchange r o)) ≡ counted (return_in t (exchange r o))
  told_counted (asks q) o = go (eqb o.number 0)
    where
      told_one : (b : Bool) → counted (if b then return_told l q else no_return) + 0 ≡ counted (if b then return_by t q else no_return)
      told_one true = omega (arith, ap counted (by_told q))
      told_one false = refl

      go : (b : Bool) → counted_in (returns_told l (if b then record { request = q; status = status_in o.reply } ∷ [] else [])) ≡ counted (return_in t (if b then record { request = q; status = status_in o.reply } ∷ [] else []))
      go true = told_one (eqb (status_in o.reply) 0)
      go false = refl
  told_counted (refused r) o = refl
  told_counted no_frame o = refl

-- ---- of exchanges one after another
told_append : (l : Ledger) (xs ys : List Exchange) → returns_told l (xs ++ ys) ≡ returns_told l xs ++ returns_told (history l xs) ys
told_append l [] ys = refl
told_append l (x ∷ xs) ys = ap (λ (rs : List Return). (if eqb x.status 0 then return_told l x.request else no_return) ∷ rs) (told_append (told l x) xs ys)

changes_append : (a b : List Return) → changes_of (a ++ b) ≡ changes_of a +ℤ changes_of b
changes_append [] b = sym (+ℤ_idl (changes_of b))
changes_append (r ∷ a) b = ap (λ (z : ℤ). change r +ℤ z) (changes_append a b) ∙ sym (+ℤ_assoc (change r) (changes_of a) (changes_of b))

counted_append : (a b : List Return) → counted_in (a ++ b) ≡ counted_in a + counted_in b
counted_append [] b = omega arith
counted_append (r ∷ a) b = omega (arith, counted_append a b)

-- ---- one call on a table that agrees with the ledger
-- the counts on the table still have 16 bits afterwards
call_small : (l : Ledger) (table : Bytes) → Sound l table → CountsFit (slots_of table) → (c : Call) → Bytes256 c.request → CountsFit (slots_of (agent table c).table)
call_small l table s fit c b = go (agent table c) (sound_comes l table s c)
  where
    here : slots_of table ≡ s.slots
    here = ap slots_of s.packed ∙ slots_table s.slots s.fits

    go : {xs : List Exchange} (o : Outcome) → Comes s.slots c xs o → CountsFit (slots_of o.table)
    go o (inl i) = rw (i.after, ← s.packed) fit
    go o (inr d) =
        let z = fitting s.slots s.fits d.free d.asked (read_fits c.request d.asked d.read) d.given d.slots d.does in
        rw (d.after, slots_table d.slots z.0)
        (does_small s.slots (rw here at fit) d.free d.asked (request_small c.request d.asked b d.read) d.given d.slots d.does)

module _ (l : Ledger) (table : Bytes) (s : Sound l table) (c : Call) where
  one_change : change (return_of table c) ≡ changes_of (returns_told l (exchange_of table c))
  unfolding return_of
  one_change = sym (told_changes l (slots_of table) (sound_agrees l table s) (read_request c.request) (agent table c))

  one_counted : counted (return_of table c) ≡ counted_in (returns_told l (exchange_of table c))
  unfolding return_of
  one_counted = sym (told_counted l (slots_of table) (sound_agrees l table s) (read_request c.request) (agent table c))

-- ---- from any totals within the bounds
record RunTold (l : Ledger) (table : Bytes) (t : Totals) (cs : List Call) : Type 0 where
  same_table : table_totalled table t cs ≡ table_then table (calls_made table t cs)
  total : (totals_then table t cs).total ≡ t.total +ℤ changes_of (returns_told l (exchanges table (calls_made table t cs)))
  returns : (totals_then table t cs).returns ≡ t.returns + counted_in (returns_told l (exchanges table (calls_made table t cs)))
  within : Within (totals_then table t cs)

-- ---- one totalling call, then the rest
module _ (l : Ledger) (table : Bytes) (t : Totals) (c : Call) (cs : List Call) where
  -- what stands after the first call, by what it left
  totals_by : (o : Totalled) → step table t c ≡ o → totals_then table t (c ∷ cs) ≡ totals_then o.outcome.table o.totals cs
  totals_by o e = ap (λ (x : Totalled). totals_then x.outcome.table x.totals cs) e

  table_by_lem : (o : Totalled) → step table t c ≡ o → table_totalled table t (c ∷ cs) ≡ table_totalled o.outcome.table o.totals cs
  table_by_lem o e = ap (λ (x : Totalled). table_totalled x.outcome.table x.totals cs) e

  calls_by : (o : Totalled) → step table t c ≡ o → (b : Bool) → totals_hold t ≡ b
      → calls_made table t (c ∷ cs) ≡ (if b then c ∷ [] else []) ++ calls_made o.outcome.table o.totals cs
  calls_by o e b h = ap₂ (λ (x : Bool) (y : Totalled). (if x then c ∷ [] else []) ++ calls_made y.outcome.table y.totals cs) h e

  -- what is told of the calls ds
  abbrev told_of : List Call → List Return
  told_of ds = returns_told l (exchanges table ds)

  -- 108: the call was not made
  not_made : totals_hold t ≡ false → RunTold l table t cs → RunTold l table t (c ∷ cs)
  not_made h r =
      record {
        same_table = table_by_lem _ e ∙ r.same_table ∙ ap (table_then table) (sym calls);
        total = ap (λ (x : Totals). x.total) (totals_by _ e) ∙ r.total ∙ ap (λ (ds : List Call). t.total +ℤ changes_of (told_of ds)) (sym calls);
        returns = ap (λ (x : Totals). x.returns) (totals_by _ e) ∙ r.returns ∙ ap (λ (ds : List Call). t.returns + counted_in (told_of ds)) (sym calls);
        within = rw (totals_by _ e) r.within;
      }
    where
      e : step table t c ≡ record { outcome = refuse 108 table c; totals = t; change = pos 0 }
      e = refused_108 table c t (pos 0) h

      calls : calls_made table t (c ∷ cs) ≡ calls_made table t cs
      calls = calls_by _ e false h

  -- the call was made, and what it returned is told before the rest
  module _ (s : Sound l table) where
    abbrev left : Bytes
    left = (agent table c).table

    abbrev more : Totals
    more = with_return (return_of table c) t

    abbrev rest : List Return
    rest = returns_told (history l (exchange_of table c)) (exchanges left (calls_made left more cs))

    told_rest_lem : told_of (c ∷ calls_made left more cs) ≡ returns_told l (exchange_of table c) ++ rest
    told_rest_lem = told_append l (exchange_of table c) (exchanges left (calls_made left more cs))

    total_then : more.total +ℤ changes_of rest ≡ t.total +ℤ changes_of (told_of (c ∷ calls_made left more cs))
    total_then =
        +ℤ_assoc t.total (change (return_of table c)) (changes_of rest)
        ∙ ap (λ (x : ℤ). t.total +ℤ (x +ℤ changes_of rest)) (one_change l table s c)
        ∙ ap (λ (x : ℤ). t.total +ℤ x) (sym (changes_append (returns_told l (exchange_of table c)) rest) ∙ ap changes_of (sym told_rest_lem))

    returns_then : more.returns + counted_in rest ≡ t.returns + counted_in (told_of (c ∷ calls_made left more cs))
    returns_then = omega (arith, one_counted l table s c, counted_append (returns_told l (exchange_of table c)) rest, ap counted_in told_rest_lem)

    made : totals_hold t ≡ true → RunTold (history l (exchange_of table c)) left more cs → RunTold l table t (c ∷ cs)
    made h r =
        record {
          same_table = table_by_lem _ e ∙ r.same_table ∙ ap (table_then table) (sym calls);
          total = ap (λ (x : Totals). x.total) (totals_by _ e) ∙ r.total ∙ total_then ∙ ap (λ (ds : List Call). t.total +ℤ changes_of (told_of ds)) (sym calls);
          returns = ap (λ (x : Totals). x.returns) (totals_by _ e) ∙ r.returns ∙ returns_then ∙ ap (λ (ds : List Call). t.returns + counted_in (told_of ds)) (sym calls);
          within = rw (totals_by _ e) r.within;
        }
      where
        e : step table t c ≡ record { outcome = agent table c; totals = more; change = change_of table c }
        e = called table c t (pos 0) h

        calls : calls_made table t (c ∷ cs) ≡ c ∷ calls_made left more cs
        calls = calls_by _ e true h

run_told : (l : Ledger) (table : Bytes) → Sound l table → CountsFit (slots_of table) → (t : Totals) → Within t → (cs : List Call) → FrameBytes cs → RunTold l table t cs
run_told l table s fit t w [] f = record { same_table = refl; total = sym (+ℤ_idr t.total); returns = omega arith; within = w }
run_told l table s fit t w (c ∷ cs) f =
    next (totals_hold t) refl (run_told l table s fit t w cs f.1)
    (λ w'. run_told (history l (exchange_of table c)) (agent table c).table (sound_call l table s c) (call_small l table s fit c f.0) (with_return (return_of table c) t) w' cs f.1)
  where
    after : totals_hold t ≡ true → Within (with_return (return_of table c) t)
    after e = rw (called table c t (pos 0) e) at (step_within table fit c f.0 t (pos 0) w)

    next : (b : Bool) → totals_hold t ≡ b → RunTold l table t cs
        → (Within (with_return (return_of table c) t) → RunTold (history l (exchange_of table c)) (agent table c).table (with_return (return_of table c) t) cs) → RunTold l table t (c ∷ cs)
    next false e still on = not_made l table t c cs e still
    next true e still on = made l table t c cs s e (on (after e))

-- ---- from 0 and 0
none_within : Within no_totals
none_within = record { few = omega arith; bound = omega arith }

told_from : (l : Ledger) (table : Bytes) → Sound l table → CountsFit (slots_of table) → (cs : List Call) → FrameBytes cs → TotalsTold l table cs
told_from l table s fit cs f =
    record { same_table = r.same_table; total = r.total ∙ +ℤ_idl _; returns = counts; within = r.within; full = full }
  where
    r : RunTold l table no_totals cs
    r = run_told l table s fit no_totals none_within cs f

    counts : (totals_then table no_totals cs).returns ≡ counted_in (returns_told l (exchanges table (calls_made table no_totals cs)))
    counts = omega (arith, r.returns)

    full : (c : Call) (was : ℤ) → ((totalling (table_totalled table no_totals cs) c (totals_then table no_totals cs) was).outcome.number ≡ 108)
        ↔ (counted_in (returns_told l (exchanges table (calls_made table no_totals cs))) ≡ 30000)
    full c was =
        let g = gives_108 (table_totalled table no_totals cs) c (totals_then table no_totals cs) was in
        let h = full_totals (totals_then table no_totals cs) r.within in
        (λ e. sym counts ∙ h.0 (g.0 e), λ e. g.1 (h.1 (counts ∙ e)))

pub totals_told : (table : Bytes) → Bytes256 table → whole_slots table ≡ true → well_table table ≡ true → (cs : List Call) → FrameBytes cs → TotalsFrom table cs
totals_told table b whole well cs f = told_from (ledger_of (slots_of table)) table (sound_table table b whole well) (table_small table b) cs f

pub totals_blank : (n : ℕ) → 1 ≤ n → n ≤ 15 → (cs : List Call) → FrameBytes cs → TotalsTold blank_ledger (blank_table n) cs
totals_blank n p q cs f = told_from blank_ledger (blank_table n) (sound_blank n p q) (table_small (blank_table n) (bytes_zeros (slot_size * n))) cs f
