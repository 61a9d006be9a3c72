-- From the frame's reading to what it does: one law for each step. Assumes nothing.
use Prim.Native.Nat.{ℕ, ◌<◌}
use mathlib.Core.Path.{◌≡◌, refl, sym, ap, subst, ◌∙◌}
use mathlib.Core.Bool.{Bool, true, false}
use mathlib.Core.List.{List}
use native.Mathlib.Omega.{arith}
use lib.Dec.{eqb}
use Rattle.std.specs.Prelude.{if◌then◌else◌, Result, Ok, Err}
use Rattle.profile.specs.Bytes.{Bytes}
use Rattle.profile.specs.Slot.{Slot}
use Rattle.profile.specs.Table.{slot_count, slots_of, whole_slots, well_table}
use Rattle.profile.specs.Tally.{tally_of, tally_in}
use Rattle.profile.specs.Frame.{kind_number}
use Rattle.profile.specs.Request.{retrieve, rek, Read, asks, number_of, read_request, RequestFits}
use Rattle.profile.specs.Agent.{the_right, the_key, Answer, find, when_found, lend_at, act, first_empty_from, Call, table_after, obey, on_bytes}
use Rattle.profile.proofs.Lookup.{Free}
use Rattle.profile.proofs.FirstEmpty.{first_free}
use Rattle.profile.proofs.WellFormed.{count_slots}
use Rattle.profile.proofs.Frames.{Reads, reads}
use Rattle.profile.proofs.Requests.{kind_number_lem, read_fits}
use Rattle.profile.proofs.Starts.{slot_unused}
use Rattle.request_reader.specs.declared.asked.Why.{Why}
use Rattle.request_reader.specs.declared.asked.Body.{Body}
use Rattle.request_reader.specs.declared.asked.Asked.{Asked}
use Rattle.request_reader.specs.Answer.{Answers, why_means, body_means}
use Rattle.request_reader.proofs.ByCase.{says_no, says_yes}
use Rattle.tallies.specs.declared.update.Change.{Change}
use Rattle.tallies.specs.declared.update.Change.TheVariants.{Same}
use Rattle.tallies.specs.Changes.{slots_then, change_in, updated}
use Rattle.tallies.proofs.Changing.{none_moved}
use Rattle.tallies.proofs.Answering.{Follows, follows, then_slots}
use Rattle.decisions.specs.Serving.{Serves, answer_at, answer_to}
use Rattle.refusals.specs.Refusing.{Refuses}
use Rattle.lendings.specs.Lending.{lent_by}
use Rattle.serving.specs.Call.{outcome, call_of}
use Rattle.serving.specs.Obeying.{lends_by, Obeys}

-- ---- a frame that is no request
pub why_means_lem : (f : Bytes) (r : Result Asked Why) → Answers f r → (w : Why) → r ≡ Err w → why_means w ≡ read_request f
why_means_lem f r a w e = sym (says_no f w (rw e at a))

pub refusal_obeys : (f : Bytes) (w : Why) (buffer : Bytes) (n : ℕ) (buffer' : Bytes) → Refuses f w buffer n buffer' → why_means w ≡ read_request f
    → (free : ℕ) (t : List Slot) (table : Bytes) (c : Call) → c.buffer ≡ buffer → c.tally ≡ tally_in table
    → outcome n buffer' table c.tally ≡ on_bytes (kind_number f) (obey (read_request f) free t) table c
refusal_obeys f w buffer n buffer' s e free t table c b y = s.on_any free t table c b y ∙ ap (λ (r : Read). on_bytes (kind_number f) (obey r free t) table c) e

-- ---- a request
module _ {f : Bytes} {r : Asked} (a : Answers f (Ok r)) where
  pub reads_as : read_request f ≡ asks (body_means f r.body r)
  reads_as = says_yes f r a r.body refl

  -- the kind in the frame is the request's
  kind_is : number_of (body_means f r.body r) ≡ kind_number f
  kind_is =
      let x : Reads f (body_means f r.body r) = rw reads_as at (reads f) in
      ap number_of x.is ∙ kind_number_lem (kind_number f) x.kind x.number f

  -- the body x was served, and it is the one that was read
  module _ (free : ℕ) {x : Body} (e : r.body ≡ x) {table buffer table' buffer' : Bytes} {y : Change} where
    pub served_at : Serves (number_of (body_means f x r)) (answer_at free table (body_means f x r)) table buffer table' buffer' y
        → Serves (kind_number f) (answer_at free table (body_means f r.body r)) table buffer table' buffer' y
    served_at s =
        let k : number_of (body_means f x r) ≡ kind_number f = ap (λ (b : Body). number_of (body_means f b r)) (sym e) ∙ kind_is in
        subst (λ (b : Body). Serves (kind_number f) (answer_at free table (body_means f b r)) table buffer table' buffer' y) (sym e) (rw k at s)

    -- kinds 2 to 9, which take no free slot
    pub served : 1 < number_of (body_means f x r) → Serves (number_of (body_means f x r)) (answer_to table (body_means f x r)) table buffer table' buffer' y
        → Serves (kind_number f) (answer_at free table (body_means f r.body r)) table buffer table' buffer' y
    served l s = served_at (rw (slot_unused free 0 (slots_of table) (body_means f x r) (λ h n q. absurd (omega (arith, l, ap number_of q)))) s)

  fits : RequestFits (body_means f r.body r)
  fits = read_fits f (body_means f r.body r) (rw reads_as at (reads f))

  -- what the answer changed can be taken into the tally of the table, and brings it up to date
  module _ (start : ℕ) {table buffer table' buffer' : Bytes} {y : Change} (whole : whole_slots table ≡ true) (well : well_table table ≡ true) (inside : start < slot_count table)
      (s : Serves (kind_number f) (answer_at (first_empty_from start (slots_of table)) table (body_means f r.body r)) table buffer table' buffer' y) where
    abbrev free : ℕ
    free = first_empty_from start (slots_of table)

    abbrev answer : Answer
    answer = answer_at free table (body_means f r.body r)

    is_free : Free free (slots_of table)
    is_free = first_free start (slots_of table) (rw (count_slots table whole well) inside)

    follows_change : Follows (slots_of table) answer
    follows_change = follows table whole well free is_free (body_means f r.body r) fits

    slots_then_lem : slots_then (slots_of table) answer ≡ slots_of (table_after table answer)
    slots_then_lem = then_slots table whole well free is_free (body_means f r.body r) fits

    pub obeys : Obeys table start f buffer table' buffer' 0 y
    obeys =
        record {
          is = rw reads_as (λ i. outcome 0 (s.reply_is i) (s.table_is i) (is_updated i));
          changed = s.change_is ∙ ap (change_in (slots_of table)) (slots_then_lem ∙ ap slots_of (sym s.table_is));
          updates = rw s.change_is follows_change.updates;
        }
      where
        is_updated : updated (tally_in table) y ≡ tally_in (table_after table answer)
        is_updated = rw s.change_is (follows_change.is_tally ∙ ap tally_of slots_then_lem)

-- ---- a frame that is no request, on a well-formed table
pub refused_obeys : (f : Bytes) (w : Why) (buffer : Bytes) (n : ℕ) (buffer' : Bytes) → Refuses f w buffer n buffer' → why_means w ≡ read_request f
    → (table : Bytes) (start : ℕ) → Obeys table start f buffer table buffer' n Same
refused_obeys f w buffer n buffer' s e table start =
    record {
      is = refusal_obeys f w buffer n buffer' s e (first_empty_from start (slots_of table)) (slots_of table) table (call_of (tally_in table) start f buffer) refl refl;
      changed = sym (none_moved (slots_of table));
      updates = tt;
    }

-- ---- kinds 3 and 4
pub lent_as : (kind : ℕ) (h k : Bytes) {table buffer table' buffer' : Bytes} {y : Change}
    → Serves kind (when_found (find h (slots_of table)) (lend_at (slots_of table) k (lent_by kind))) table buffer table' buffer' y
    → Serves kind (answer_to table (lends_by kind h k)) table buffer table' buffer' y
unfolding act
lent_as kind h k {table} {buffer} {table'} {buffer'} {y} = go (eqb kind 3)
  where
    go : (b : Bool) → Serves kind (when_found (find h (slots_of table)) (lend_at (slots_of table) k (λ r. if b then the_right r else the_key r.key))) table buffer table' buffer' y
        → Serves kind (answer_to table (if b then retrieve h k else rek h k)) table buffer table' buffer' y
    go true s = s
    go false s = s
