-- PROFILE 8.3: where a slot holds a right before a call and after it, the count is no higher.
use Prim.Native.Nat.{ℕ}
use mathlib.Core.Path.{◌≡◌, refl, sym, ap, ◌∙◌}
use mathlib.Core.Logic.{◌⊎◌, inl, inr}
use mathlib.Core.List.{List}
use mathlib.Core.Option.{some, some-injective}
use mathlib.Core.Bool.{true}
use lib.ListN.{get_elem?, set}
use Rattle.profile.specs.Bytes.{Bytes, Bytes256}
use Rattle.profile.specs.Slot.{Right, recount, reserved, enabled, disabled, Slot, empty, taken, TableFits}
use Rattle.profile.specs.Table.{slots_of, table_of, whole_slots, well_table}
use Rattle.profile.specs.Request.{Request, setup, install, retrieve, rek, enable, remove, cancel, list, info}
use Rattle.profile.specs.Agent.{Given, Call, Outcome, agent}
use Rattle.profile.specs.History.{Exchange}
use Rattle.profile.specs.Rising.{NoHigher}
use Rattle.profile.specs.Unlisted.{slot_right, HoldsRight}
use Rattle.profile.proofs.FirstEmpty.{not_there}
use Rattle.profile.proofs.Tables.{slots_table, table_slots}
use Rattle.profile.proofs.WellFormed.{table_fits}
use Rattle.profile.proofs.Requests.{read_fits}
use Rattle.profile.proofs.Fitting.{fitting}
use Rattle.profile.proofs.Steps.{Stays, LendsOut, Returns, Does}
use Rattle.profile.proofs.Calls.{Comes, comes}
use Rattle.profile.proofs.Unlisted.{set_at, found_at}
use Rattle.profile.proofs.CountOrder.{raise_means, no_higher_same}

module _ (t : List Slot) where
  -- what a slot holds is one right
  holds_is : (i : ℕ) (s : Slot) → get_elem? t i ≡ some s → (r : Right) → HoldsRight t i r → slot_right s ≡ some r
  holds_is i s e r w = ap slot_right (some-injective s w.slot (sym e ∙ w.there)) ∙ w.holds

  same_slot : (i : ℕ) (s : Slot) → get_elem? t i ≡ some s → (r q : Right) → HoldsRight t i r → slot_right s ≡ some q → NoHigher r.count q.count
  same_slot i s e r q w f = rw (some-injective r q (sym (holds_is i s e r w) ∙ f)) (no_higher_same q.count)

  abbrev SlotLow : ℕ → List Slot → Type 0
  SlotLow i u = (r q : Right) → HoldsRight t i r → HoldsRight u i q → NoHigher r.count q.count

  set_low : (at : ℕ) (s : Slot) (u : List Slot) → u ≡ set t at s
      → ((r q : Right) → HoldsRight t at r → slot_right s ≡ some q → NoHigher r.count q.count) → (i : ℕ) → SlotLow i u
  set_low at s u e k i r q w x = go (set_at t at i s x.slot (rw e at x.there))
    where
      go : (get_elem? t i ≡ some x.slot) ⊎ ((at ≡ i) × (s ≡ x.slot)) → NoHigher r.count q.count
      go (inl p) = same_slot i x.slot p r q w x.holds
      go (inr p) = k r q (rw (← p.0) at w) (ap slot_right p.1 ∙ x.holds)

  stays_low : (u : List Slot) → u ≡ t → (i : ℕ) → SlotLow i u
  stays_low u e i r q w x = let y : HoldsRight t i q = rw e at x in same_slot i y.slot y.there r q w y.holds

  lent_low : (h k : Bytes) (give : Right → Given) (g : Given) (u : List Slot) → LendsOut t h k give g u → (i : ℕ) → SlotLow i u
  lent_low h k give g u d =
      set_low d.turns.at (taken k (disabled d.right)) u d.turns.after
      (λ r q w f. same_slot d.turns.at (taken h (enabled d.right)) (found_at d.turns) r q w f)

  does_low : (free : ℕ) (q : Request) (g : Given) (u : List Slot) → Does free t q g u → (i : ℕ) → SlotLow i u
  does_low free (setup h n) g u d = set_low free (taken h (reserved n)) u d.after (λ r q w f. absurd (not_there f))
  does_low free (install h x) g u d =
      set_low d.turns.at (taken h (enabled x)) u d.turns.after
      (λ r q w f. absurd (not_there (holds_is d.turns.at (taken h (reserved d.room)) (found_at d.turns) r w)))
  does_low free (retrieve h k) g u d = lent_low h k _ g u d
  does_low free (rek h k) g u d = lent_low h k _ g u d
  does_low free (enable h c) g u d = go d.did
    where
      go : ((x : Right) × Stays t h (enabled x) u) ⊎ Returns t h c u → (i : ℕ) → SlotLow i u
      go (inl x) = stays_low u x.1.after
      go (inr x) =
          set_low x.turns.at (taken h (enabled (recount c x.right))) u x.turns.after
          (λ r q w f.
          let was : x.right ≡ r = some-injective x.right r (holds_is x.turns.at (taken h (disabled x.right)) (found_at x.turns) r w) in
          let is : recount c x.right ≡ q = some-injective (recount c x.right) q f in
          rw (← was, ← is) ((raise_means x.right.count c).0 x.not_raised))
  does_low free (remove h) g u d = set_low d.turns.at empty u d.turns.after (λ r q w f. absurd (not_there f))
  does_low free (cancel h) g u d = set_low d.turns.at empty u d.turns.after (λ r q w f. absurd (not_there f))
  does_low free (list limit q) g u d = stays_low u d.after
  does_low free (info h) g u d = stays_low u d.stays.after

packed_low : (t : List Slot) → TableFits t → (c : Call) (i : ℕ) → SlotLow t i (slots_of (agent (table_of t) c).table)
packed_low t f c = go (agent (table_of t) c) (comes t f c)
  where
    go : {xs : List Exchange} (o : Outcome) → Comes t c xs o → (i : ℕ) → SlotLow t i (slots_of o.table)
    go o (inl d) = rw (d.after, slots_table t f) (stays_low t t refl)
    go o (inr d) =
        let z = fitting t f d.free d.asked (read_fits c.request d.asked d.read) d.given d.slots d.does in
        rw (d.after, slots_table d.slots z.0) (does_low t d.free d.asked d.given d.slots d.does)

pub slot_never_rises : (table : Bytes) → Bytes256 table → whole_slots table ≡ true → well_table table ≡ true → (c : Call) (i : ℕ) (earlier later : Right)
    → HoldsRight (slots_of table) i earlier → HoldsRight (slots_of (agent table c).table) i later → NoHigher earlier.count later.count
slot_never_rises table y whole well c i =
    let p : SlotLow (slots_of table) i (slots_of (agent table c).table) = rw (table_slots table y whole well) at (packed_low (slots_of table) (table_fits table whole well) c i) in
    p
