-- PROFILE 8.3: from a blank card, whatever is asked, the table agrees with the history of the exchanges.
use Prim.Native.Nat.{ℕ, zero, suc, ◌+◌, ◌*◌, ◌≤◌}
use mathlib.Core.Path.{◌≡◌, refl, sym, ap, ◌∙◌}
use mathlib.Core.Logic.{inl, inr}
use mathlib.Core.List.{List, [], ◌∷◌, ◌++◌}
use mathlib.Core.Bool.{true}
use native.Mathlib.Omega.{arith}
use lib.ListN.{length, replicate, length-replicate, replicate-append-replicate}
use Rattle.profile.specs.Bytes.{Bytes, zeros}
use Rattle.profile.specs.Slot.{Slot, empty, TableFits}
use Rattle.profile.specs.Table.{slot_count, slots_of, table_of, whole_slots, well_table, pack}
use Rattle.profile.specs.Agent.{Call, Outcome, agent}
use Rattle.profile.specs.History.{Ledger, blank_ledger, Exchange, history}
use Rattle.profile.specs.Run.{Agrees, exchange_of, exchanges, table_then, blank_table, ledger_then}
use Rattle.profile.proofs.Tables.{slot_count_lem, slots_table, well_table_lem, whole_table}
use Rattle.profile.proofs.Requests.{read_fits}
use Rattle.profile.proofs.Agreement.{kept, blank_agrees}
use Rattle.profile.proofs.Fitting.{fitting, blank_fits}
use Rattle.profile.proofs.Calls.{Succeeds, Comes, comes, failed_history, history_append}

-- the table is one of packed slots, which agree with the ledger
pub record Sound (l : Ledger) (table : Bytes) : Type 0 where
  pub slots : List Slot
  pub packed : table ≡ table_of slots
  pub fits : TableFits slots
  pub some_slots : 1 ≤ length slots
  pub few_slots : length slots ≤ 15
  pub agrees : Agrees l slots

-- what a call on such a table comes to
pub sound_comes : (l : Ledger) (table : Bytes) (s : Sound l table) (c : Call) → Comes s.slots c (exchange_of table c) (agent table c)
sound_comes l table s c = rw s.packed (comes s.slots s.fits c)

module _ (l : Ledger) (table : Bytes) (s : Sound l table) where
  comes_fits : (c : Call) {xs : List Exchange} {o : Outcome} (d : Succeeds s.slots c xs o) → TableFits d.slots × (length d.slots ≡ length s.slots)
  comes_fits c d = fitting s.slots s.fits d.free d.asked (read_fits c.request d.asked d.read) d.given d.slots d.does

  sound_end : (c : Call) (xs : List Exchange) (o : Outcome) → Comes s.slots c xs o → Sound (history l xs) o.table
  sound_end c xs o (inl i) = rw (failed_history l xs i.failed, i.after, ← s.packed) s
  sound_end c xs o (inr d) =
      let f = comes_fits c d in
      rw d.told
      (record {
        slots = d.slots;
        packed = d.after;
        fits = f.0;
        some_slots = rw f.1 s.some_slots;
        few_slots = rw f.1 s.few_slots;
        agrees = kept l s.slots s.agrees d.free d.is_free d.asked d.given d.slots d.does;
      })

pub sound_call : (l : Ledger) (table : Bytes) → Sound l table → (c : Call) → Sound (history l (exchange_of table c)) (agent table c).table
sound_call l table s c = sound_end l table s c (exchange_of table c) (agent table c) (sound_comes l table s c)

-- a call keeps the number of slots
pub sound_count : (l : Ledger) (table : Bytes) → Sound l table → (c : Call) → slot_count (agent table c).table ≡ slot_count table
sound_count l table s c = go (agent table c) (sound_comes l table s c)
  where
    go : {xs : List Exchange} (o : Outcome) → Comes s.slots c xs o → slot_count o.table ≡ slot_count table
    go o (inl i) = ap slot_count (i.after ∙ sym s.packed)
    go o (inr d) =
        let f = comes_fits l table s c d in
        ap slot_count d.after ∙ slot_count_lem d.slots f.0 ∙ f.1 ∙ sym (slot_count_lem s.slots s.fits) ∙ ap slot_count (sym s.packed)

pub sound_run : (l : Ledger) (table : Bytes) → Sound l table → (cs : List Call) → Sound (history l (exchanges table cs)) (table_then table cs)
sound_run l table s [] = s
sound_run l table s (c ∷ cs) =
    rw (history_append l (exchange_of table c) (exchanges (agent table c).table cs))
    (sound_run (history l (exchange_of table c)) (agent table c).table (sound_call l table s c) cs)

-- ---- the blank card
pub zeros_table : (n : ℕ) → blank_table n ≡ table_of (replicate n empty)
unfolding table_of zeros pack
zeros_table zero = refl
zeros_table (suc n) =
    let e : 4288 * suc n ≡ 4288 + 4288 * n = omega arith in
    ap zeros e ∙ sym (replicate-append-replicate 4288 (4288 * n) 0) ∙ ap (λ (r : Bytes). zeros 4288 ++ r) (zeros_table n)

pub sound_blank : (n : ℕ) → 1 ≤ n → n ≤ 15 → Sound blank_ledger (blank_table n)
sound_blank n p q =
    record {
      slots = replicate n empty;
      packed = zeros_table n;
      fits = blank_fits n;
      some_slots = rw (length-replicate n empty) p;
      few_slots = rw (length-replicate n empty) q;
      agrees = blank_agrees n;
    }

pub sound_then : (n : ℕ) → 1 ≤ n → n ≤ 15 → (cs : List Call) → Sound (ledger_then n cs) (table_then (blank_table n) cs)
sound_then n p q cs = sound_run blank_ledger (blank_table n) (sound_blank n p q) cs

-- such a table is whole and well formed
pub sound_well : (l : Ledger) (table : Bytes) → Sound l table → (whole_slots table ≡ true) × (well_table table ≡ true)
sound_well l table s = (
  ap whole_slots s.packed ∙ whole_table s.slots s.fits s.some_slots s.few_slots,
  ap well_table s.packed ∙ well_table_lem s.slots s.fits s.agrees.once,
)

pub sound_agrees : (l : Ledger) (table : Bytes) → Sound l table → Agrees l (slots_of table)
sound_agrees l table s = rw (s.packed, slots_table s.slots s.fits) s.agrees
