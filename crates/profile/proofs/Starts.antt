-- PROFILE 8.4: only a setup depends on the start, and of it only the slot. Calls and sequences of calls that differ in their starts alone, on tables that hold
-- the same records, are alike.
use Prim.Native.Nat.{ℕ, zero, suc, ◌*◌, ◌≤◌, ◌<◌, min}
use mathlib.Core.Path.{◌≡◌, refl, sym, ap, ap₂, ◌∙◌, subst}
use mathlib.Core.List.{List, [], ◌∷◌, ◌++◌}
use mathlib.Core.Option.{some}
use mathlib.Core.Bool.{Bool, true, false, not, true≢false}
use native.Mathlib.Omega.{arith}
use lib.Dec.{eqb, leb, ltb}
use lib.ListN.{length, take, get_elem?, length-take}
use lib.Seq.{take_all}
use Rattle.std.specs.Prelude.{if◌then◌else◌}
use Rattle.profile.specs.Bytes.{Bytes, In, over, joined}
use Rattle.profile.specs.Slot.{Slot}
use Rattle.profile.specs.Table.{slot_count, slots_of, whole_slots, well_table}
use Rattle.profile.specs.Tally.{Tally, tally_in, same_tally}
use Rattle.profile.specs.Frame.{frame, kind_number, status_in}
use Rattle.profile.specs.Request.{Request, setup, install, retrieve, rek, enable, remove, cancel, list, info, Read, asks, refused, no_frame, read_request}
use Rattle.profile.specs.Agent.{Answer, deny, done, listed, fitting, act, first_empty_from, reply_frame, Call, Outcome, replied, Obeyed, stopped, answered, obey, on_bytes, agent}
use Rattle.profile.specs.History.{Ledger, blank_ledger, Exchange, history}
use Rattle.profile.specs.Run.{ledger_of, exchange, exchange_of, blank_table, ledger_then}
use Rattle.profile.specs.Starts.{AlikeButPlaces, OtherStart, OtherStarts, SameList, SameCall, SameRun}
use Rattle.profile.proofs.Logic.{leb_ltb, leb_false, leb_over, ltb_over}
use Rattle.profile.proofs.Strings.{length_zeros}
use Rattle.profile.proofs.Counts.{status_over}
use Rattle.profile.proofs.FirstEmpty.{not_there}
use Rattle.profile.proofs.Frames.{reads}
use Rattle.profile.proofs.Requests.{reads_number}
use Rattle.profile.proofs.Numbers.{obeyed, TestedAlike, by_agents}
use Rattle.profile.proofs.WellFormed.{table_distinct, count_slots}
use Rattle.profile.proofs.Laws.{refuses}
use Rattle.profile.proofs.Tallies.{tally_afresh}
use Rattle.profile.proofs.Sound.{Sound, sound_call, sound_count, sound_then, sound_well, sound_agrees}
use Rattle.profile.proofs.AnyTable.{table_agrees, sound_by}
use Rattle.profile.proofs.SameRecords.{Like, like_back, Place, first_place, Alike, both_deny, both_give, both_list, alike, same_records_tally, as_many_listed, shown_too, listed_too}

-- with both starts inside, or both outside, every test says the same
other_tests : {table other : Bytes} {c d : Call} → slot_count table ≡ slot_count other → whole_slots table ≡ whole_slots other → well_table table ≡ well_table other
    → tally_in table ≡ tally_in other → OtherStart (slot_count table) c d → TestedAlike table other c d
other_tests {table} {other} {c} {d} n whole well tally o =
    record {
      buffer = ap length o.same_buffer;
      whole = whole;
      start =
          leb_ltb (slot_count table) c.start
          ∙ ap not o.both_inside
          ∙ sym (leb_ltb (slot_count table) d.start)
          ∙ ap (λ (m : ℕ). leb m d.start) n;
      well = well;
      tally = ap₂ same_tally o.tallies_agree tally;
    }

-- ---- only a setup looks at the slot that is free for it
pub slot_unused : (x y : ℕ) (t : List Slot) (q : Request) → ((h : Bytes) (n : ℕ) → q ≡ setup h n → ⊥) → act x t q ≡ act y t q
unfolding act
slot_unused x y t (setup h n) no-setup = absurd (no-setup h n refl)
slot_unused x y t (install h r) no-setup = refl
slot_unused x y t (retrieve h k) no-setup = refl
slot_unused x y t (rek h k) no-setup = refl
slot_unused x y t (enable h c) no-setup = refl
slot_unused x y t (remove h) no-setup = refl
slot_unused x y t (cancel h) no-setup = refl
slot_unused x y t (list limit q) no-setup = refl
slot_unused x y t (info h) no-setup = refl

only_setup : (x y : ℕ) (t : List Slot) (r : Read) → ((h : Bytes) (n : ℕ) → r ≡ asks (setup h n) → ⊥) → obey r x t ≡ obey r y t
only_setup x y t (asks q) no-setup = ap answered (slot_unused x y t q (λ h n e. no-setup h n (ap asks e)))
only_setup x y t (refused r) no-setup = refl
only_setup x y t no_frame no-setup = refl

-- what is done with a frame depends on the call by what is lent with it
same_lent : (kind : ℕ) (x : Obeyed) (table : Bytes) (c d : Call) → c.tally ≡ d.tally → c.buffer ≡ d.buffer → on_bytes kind x table c ≡ on_bytes kind x table d
same_lent kind (stopped n) table c d e f = ap₂ {C = Outcome} (λ (b : Bytes) (y : Tally). record { number = n; reply = b; table = table; tally = y }) f e
same_lent kind (answered a) table c d e f = ap (replied kind a table) f

pub only_setups : (table : Bytes) (c d : Call) → OtherStart (slot_count table) c d → ((h : Bytes) (n : ℕ) → read_request c.request ≡ asks (setup h n) → ⊥) → agent table c ≡ agent table d
only_setups table c d o no-setup =
    by_agents (other_tests refl refl refl refl o) (λ (x y : Outcome). x ≡ y) (λ n _. same_lent 0 (stopped n) table c d o.tallies_agree o.same_buffer) λ _ _ _ _ _.
    same_lent (kind_number c.request) (obey (read_request c.request) (free c) (slots_of table)) table c d o.tallies_agree o.same_buffer
    ∙ ap (λ (x : Obeyed). on_bytes (kind_number c.request) x table d) (only_setup (free c) (free d) (slots_of table) (read_request c.request) no-setup)
    ∙ ap (λ (f : Bytes). on_bytes (kind_number f) (obey (read_request f) (free d) (slots_of table)) table d) o.same_request
  where
    free : Call → ℕ
    free e = first_empty_from e.start (slots_of table)

-- ---- the outcomes of a frame that reads as r: the same number and status and, but for a list, the same reply
record SameOutcome (r : Read) (o p : Outcome) : Type 0 where
  number : o.number ≡ p.number
  status : status_in o.reply ≡ status_in p.reply
  reply : ((limit : ℕ) (q : List Bytes) → r ≡ asks (list limit q) → ⊥) → o.reply ≡ p.reply

same_reply : {r : Read} {o p : Outcome} → o.number ≡ p.number → o.reply ≡ p.reply → SameOutcome r o p
same_reply n e = record { number = n; status = ap status_in e; reply = λ _. e }

same_exchange : (r : Read) {o p : Outcome} → SameOutcome r o p → exchange r o ≡ exchange r p
same_exchange (asks q) s = ap₂ {C = List Exchange} (λ (n m : ℕ). if eqb n 0 then record { request = q; status = m } ∷ [] else []) s.number s.status
same_exchange (refused r) s = refl
same_exchange no_frame s = refl

module _ (kind : ℕ) (table other : Bytes) (c d : Call) (e : c.buffer ≡ d.buffer) where
  same_answer : {q : Request} {x y : Answer} → Alike q x y → SameOutcome (asks q) (replied kind x table c.buffer) (replied kind y other d.buffer)
  unfolding reply_frame
  same_answer (both_deny {r = r}) = same_reply refl (ap (over (reply_frame kind (deny r))) e)
  same_answer (both_give {g = g} {t = t}) = same_reply refl (ap (over (reply_frame kind (done g t))) e)
  same_answer (both_list {g = g} {k = k} {t = t} {u = u}) =
      record { number = refl; status = status_over kind (done g t) c.buffer ∙ sym (status_over kind (done k u) d.buffer); reply = λ no-list. absurd (no-list _ _ refl) }

  same_obeyed : {t u : List Slot} → Like t u → {x y : ℕ} → Place x t → Place y u → (r : Read)
      → SameOutcome r (on_bytes kind (obey r x t) table c) (on_bytes kind (obey r y u) other d)
  same_obeyed a p q (asks z) = same_answer (alike a p q z)
  same_obeyed a p q (refused r) = same_reply refl (ap (over (reply_frame kind (deny r))) e)
  same_obeyed a p q no_frame = same_reply refl e

-- ---- two replies to a list query
in_take : (n : ℕ) (hs : List Bytes) (h : Bytes) → In h (take n hs) → In h hs
in_take n hs h m = (m.0, at n hs m.0 m.1)
  where
    at : (n : ℕ) (hs : List Bytes) (i : ℕ) → get_elem? (take n hs) i ≡ some h → get_elem? hs i ≡ some h
    at zero hs i p = absurd (not_there p)
    at (suc n) [] i p = p
    at (suc n) (k ∷ hs) zero p = p
    at (suc n) (k ∷ hs) (suc i) p = at n hs i p

module _ {t u : List Slot} (a : Like t u) (limit : ℕ) (q : List Bytes) (buffer : Bytes) where
  abbrev many : ℕ
  many = length (listed q t)

  abbrev few : ℕ
  few = fitting limit many

  none_left_off : ltb few many ≡ false → (take few (listed q t) ≡ listed q t) × (take few (listed q u) ≡ listed q u)
  none_left_off e =
      let h = ltb_over few many e in
      (take_all few (listed q t) h, take_all few (listed q u) (omega (arith, h, as_many_listed a q)))

  same_list : (x y : ℕ) → SameList q t u buffer (over (reply_frame 8 (act x t (list limit q))) buffer) (over (reply_frame 8 (act y u (list limit q))) buffer)
  unfolding act reply_frame
  same_list x y =
      record {
        more = ltb few many;
        listed = take few (listed q t);
        other_listed = take few (listed q u);
        replies = refl;
        other_replies =
            ap (λ (n : ℕ). over (frame 8 0 ((if ltb (fitting limit n) n then 128 else 0) ∷ joined (take (fitting limit n) (listed q u)))) buffer) (sym (as_many_listed a q));
        as_many = length-take few (listed q t) ∙ ap (min few) (as_many_listed a q) ∙ sym (length-take few (listed q u));
        shown = λ h m. shown_too a q h (in_take few (listed q t) h m);
        other_shown = λ h m. shown_too (like_back a) q h (in_take few (listed q u) h m);
        same_handles = λ e h.
            let all = none_left_off e in
            rw (all.0, all.1) (listed_too a q h, listed_too (like_back a) q h);
      }

-- ---- two tables with as many slots, whose records one ledger tells
record Beside (l : Ledger) (table other : Bytes) : Type 0 where
  sound : Sound l table
  other_sound : Sound l other
  as_many : slot_count table ≡ slot_count other

module _ {l : Ledger} {table other : Bytes} (b : Beside l table other) where
  wells : (whole_slots table ≡ true) × (well_table table ≡ true)
  wells = sound_well l table b.sound

  other_wells : (whole_slots other ≡ true) × (well_table other ≡ true)
  other_wells = sound_well l other b.other_sound

  count : length (slots_of table) ≡ slot_count table
  count = count_slots table wells.0 wells.1

  other_count : length (slots_of other) ≡ slot_count other
  other_count = count_slots other other_wells.0 other_wells.1

  like : Like (slots_of table) (slots_of other)
  like =
      let agrees = sound_agrees l table b.sound in
      let other-agrees = sound_agrees l other b.other_sound in
      record {
        records = record { as_many = count ∙ b.as_many ∙ sym other_count; each = λ h. agrees.each h ∙ sym (other-agrees.each h) };
        once = agrees.once;
      }

  module _ {c d : Call} (o : OtherStart (slot_count table) c d) where
    tested : TestedAlike table other c d
    tested = other_tests b.as_many (wells.0 ∙ sym other_wells.0) (wells.1 ∙ sym other_wells.1) (same_records_tally like) o

    -- the slots that the two searches find
    place : c.start < slot_count table → Place (first_empty_from c.start (slots_of table)) (slots_of table)
    place inside = first_place c.start (slots_of table) (rw count inside)

    other_place : c.start < slot_count table → Place (first_empty_from d.start (slots_of other)) (slots_of other)
    other_place inside =
        first_place d.start (slots_of other)
        (rw other_count (leb_over (slot_count other) d.start (sym tested.start ∙ leb_false (slot_count table) c.start inside)))

    same_outcome : SameOutcome (read_request c.request) (agent table c) (agent other d)
    same_outcome =
        by_agents tested (SameOutcome (read_request c.request)) (λ _ _. same_reply refl o.same_buffer) λ _ _ inside _ _.
        subst (λ (f : Bytes). SameOutcome (read_request c.request) (obeyed table c) (on_bytes (kind_number f) (obey (read_request f) (first_empty_from d.start (slots_of other)) (slots_of other)) other d)) o.same_request
        (same_obeyed (kind_number c.request) table other c d o.same_buffer like (place inside) (other_place inside) (read_request c.request))

    same_told : exchange_of table c ≡ exchange_of other d
    same_told = same_exchange (read_request c.request) same_outcome ∙ ap (λ (f : Bytes). exchange (read_request f) (agent other d)) o.same_request

    lists : (limit : ℕ) (q : List Bytes) → read_request c.request ≡ asks (list limit q) → eqb (agent table c).number 0 ≡ true
        → SameList q (slots_of table) (slots_of other) c.buffer (agent table c).reply (agent other d).reply
    lists limit q e =
        by_agents tested (λ (x y : Outcome). eqb x.number 0 ≡ true → SameList q (slots_of table) (slots_of other) c.buffer x.reply y.reply)
        (λ n f z. absurd (true≢false (sym z ∙ f))) λ _ _ _ _ _ _.
        rw (← o.same_request, ← o.same_buffer, e, ← kind)
        (same_list like limit q c.buffer (first_empty_from c.start (slots_of table)) (first_empty_from d.start (slots_of other)))
      where
        kind : ◌≡◌ {A = ℕ} 8 (kind_number c.request)
        kind = reads_number c.request (list limit q) (rw e at (reads c.request))

    after : Beside (history l (exchange_of table c)) (agent table c).table (agent other d).table
    after =
        record {
          sound = sound_call l table b.sound c;
          other_sound = rw same_told (sound_call l other b.other_sound d);
          as_many = sound_count l table b.sound c ∙ b.as_many ∙ sym (sound_count l other b.other_sound d);
        }

-- the tally afterwards: that of the records where there is a reply, and the one lent where there is none
same_tally_after : {l : Ledger} {table other : Bytes} → Beside l table other → {c d : Call} → OtherStart (slot_count table) c d → (agent table c).tally ≡ (agent other d).tally
same_tally_after {l} {table} {other} b {c} {d} o = go (eqb (agent table c).number 0) refl
  where
    same_number : (x : Bool) → eqb (agent table c).number 0 ≡ x → eqb (agent other d).number 0 ≡ x
    same_number x e = ap (λ (n : ℕ). eqb n 0) (sym (same_outcome b o).number) ∙ e

    go : (x : Bool) → eqb (agent table c).number 0 ≡ x → (agent table c).tally ≡ (agent other d).tally
    go true e = tally_afresh table c e ∙ same_records_tally (like (after b o)) ∙ sym (tally_afresh other d (same_number true e))
    go false e = ((refuses table c).by_number e).2 ∙ o.tallies_agree ∙ sym ((refuses other d).by_number (same_number false e)).2

call_beside : {l : Ledger} {table other : Bytes} → Beside l table other → {c d : Call} → OtherStart (slot_count table) c d → SameCall table other c d
call_beside b o =
    record {
      number = (same_outcome b o).number;
      exchange = same_told b o;
      records = (like (after b o)).records;
      tally = same_tally_after b o;
      reply = (same_outcome b o).reply;
      lists = lists b o;
    }

-- ---- one call after another
run_beside : {l : Ledger} {table other : Bytes} → Beside l table other → (cs ds : List Call) → OtherStarts (slot_count table) cs ds → SameRun table other cs ds
run_beside b [] [] o = record { same_numbers = refl; same_exchanges = refl; same_ledger = λ _. refl; records = (like b).records }
run_beside b [] (d ∷ ds) o = absurd o
run_beside b (c ∷ cs) [] o = absurd o
run_beside {l} {table} {other} b (c ∷ cs) (d ∷ ds) o =
    let rest = run_beside {l = history l (exchange (read_request c.request) (agent table c))} {table = (agent table c).table} {other = (agent other d).table} (after b o.0) cs ds (rw (sound_count l table b.sound c) o.1) in
    let told = ap₂ (λ (xs ys : List Exchange). xs ++ ys) (same_told b o.0) rest.same_exchanges in
    record {
      same_numbers = ap₂ {C = List ℕ} (λ (n : ℕ) (ns : List ℕ). n ∷ ns) (same_outcome b o.0).number rest.same_numbers;
      same_exchanges = told;
      same_ledger = λ l. ap (history l) told;
      records = rest.records;
    }

-- ---- tables
beside : {table other : Bytes} → AlikeButPlaces table other → Beside (ledger_of (slots_of table)) table other
beside {table} {other} a =
    let g = table_agrees (slots_of table) (table_distinct table a.whole a.well) in
    record {
      sound = sound_by table a.bytes a.whole a.well (ledger_of (slots_of table)) g;
      other_sound =
          sound_by other a.other_bytes a.other_whole a.other_well (ledger_of (slots_of table))
          (record { each = λ h. sym (a.records.each h) ∙ g.each h; once = λ h. rw (← (a.records.each h)) (g.once h) });
      as_many = sym (count_slots table a.whole a.well) ∙ a.records.as_many ∙ count_slots other a.other_whole a.other_well;
    }

pub same_call : (table other : Bytes) → AlikeButPlaces table other → (c d : Call) → OtherStart (slot_count table) c d → SameCall table other c d
same_call table other a c d o = call_beside (beside a) o

pub same_run : (table other : Bytes) → AlikeButPlaces table other → (cs ds : List Call) → OtherStarts (slot_count table) cs ds → SameRun table other cs ds
same_run table other a cs ds o = run_beside (beside a) cs ds o

blank_count : (n : ℕ) → slot_count (blank_table n) ≡ n
blank_count n = rw (length_zeros (4288 * n)) (omega arith)

pub same_ledger : (n : ℕ) → 1 ≤ n → n ≤ 15 → (cs ds : List Call) → OtherStarts n cs ds → ledger_then n cs ≡ ledger_then n ds
same_ledger n p q cs ds o = (run_beside blanks cs ds (rw (blank_count n) o)).same_ledger blank_ledger
  where
    blanks : Beside blank_ledger (blank_table n) (blank_table n)
    blanks = record { sound = sound_then n p q []; other_sound = sound_then n p q []; as_many = refl }
