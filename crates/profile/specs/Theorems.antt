-- What is proved of the definitions, whole: one statement, with a field for each theorem. Its proof is `theorems`,
-- crates/profile/proofs/Theorems.antt; to believe a theorem, read it here.
use Rattle.std.specs.Prelude.{ℕ, ◌≤◌, ◌<◌, ◌≡◌, ◌↔◌, List, [], map, true, false, T, eqb, ltb, ℤ, nat_abs, length, drop, set}
use Rattle.std.proofs.Math.Option.{some}
use Rattle.std.proofs.Math.ListN.{get_elem?}
use Rattle.profile.specs.Bytes.{Bytes, Bytes256, zeros, In, over, all, any, joined}
use Rattle.profile.specs.Sizes.{slot_size, reply_room}
use Rattle.profile.specs.Slot.{Count, raises, Right, reserved, enabled, disabled, Slot, taken, distinct, SlotFits, TableFits}
use Rattle.profile.specs.Table.{unpack, pack, well_slot, slot_bytes, slot_count, slots_of, table_of, whole_slots, well_table}
use Rattle.profile.specs.Turning.{unpack_before, keeps_count, Turned, turn}
use Rattle.profile.specs.Tally.{tally_with, in_slot, plus, tally_of, tally_in}
use Rattle.profile.specs.Salvage.{salvage}
use Rattle.profile.specs.Frame.{count_raised, Kind, kind_of, is_status, kind_number, status_in}
use Rattle.profile.specs.Request.{Request, setup, enable, list, asks, read_request, write_request, with_verdict, RequestFits}
use Rattle.profile.specs.Agent.{Given, Answer, deny, done, find, act, lowest_empty, first_empty_from, reply_frame, Call, Outcome, refuse, replied, agent}
use Rattle.profile.specs.Device.{Fields, request_of, fields_in, Arrays, Written, write, malformed, read_reply, sent}
use Rattle.profile.specs.BytesCases
use Rattle.profile.specs.SizeCases
use Rattle.profile.specs.TableCases
use Rattle.profile.specs.TurningCases
use Rattle.profile.specs.SalvageCases
use Rattle.profile.specs.RequestCases
use Rattle.profile.specs.ActCases
use Rattle.profile.specs.Cases.{cases, Hold}
use Rattle.profile.specs.WriterCases
use Rattle.profile.specs.ReplyCases
use Rattle.profile.specs.ListingCases
use Rattle.profile.specs.HistoryCases
use Rattle.profile.specs.RisingCases
use Rattle.profile.specs.DemandCases
use Rattle.profile.specs.StartCases
use Rattle.profile.specs.TallyCases
use Rattle.profile.specs.UnlistedCases
use Rattle.profile.specs.TotalCases
use Rattle.profile.specs.Rising.{NoHigher, Raises, ReturnedAnyway, NotAbove}
use Rattle.profile.specs.Demand3.{Demand3From, Demand3}
use Rattle.profile.specs.Starts.{AlikeButPlaces, OtherStart, OtherStarts, SameCall, SameRun}
use Rattle.profile.specs.Tallies.{CountsAll, Carries}
use Rattle.profile.specs.Unlisted.{OpenToUse, OpenToReturn, HoldsRight, HoldsRightBut, FoundByCourse}
use Rattle.profile.specs.Salvages.{Salvages, Beside}
use Rattle.profile.specs.Total.{no_return, return_of, change_of, Totals, totals_hold, totalling}
use Rattle.profile.specs.Totals.{Within, totals_then, FrameBytes, no_totals, TotalsTold, TotalsFrom}
use Rattle.profile.specs.History.{blank_ledger}
use Rattle.profile.specs.Run.{numbers_then, blank_table, table_after_all, ledger_of, ledger_then}
use Rattle.profile.specs.Laws.{Apart, Refuses, AStatus, FoundIs, Full, FirstEmpty, SetsFirst, ListsExactly}

-- ---- the words of the theorems below
-- the slots that a well-formed table holds: of their sizes, their handles distinct, and packed they are the table
pub record Unpacks (table : Bytes) : Type 0 where
  pub fit : TableFits (slots_of table)
  pub apart : distinct (slots_of table) ≡ true
  pub again : table_of (slots_of table) ≡ table

-- the table of some slots: well formed, and unpacked it is these slots
pub record Packs (t : List Slot) : Type 0 where
  pub whole : whole_slots (table_of t) ≡ true
  pub well : well_table (table_of t) ≡ true
  pub again : slots_of (table_of t) ≡ t

-- what the turning leaves with the number 0: a well-formed table, which holds what the table held before, by the rules of then; no byte of a slot but its first is another
pub record Turns (table : Bytes) (o : Turned) : Type 0 where
  pub whole : whole_slots o.table ≡ true
  pub well : well_table o.table ≡ true
  pub holds : slots_of o.table ≡ map unpack_before (slot_bytes table)
  pub others : map (drop 1) (slot_bytes o.table) ≡ map (drop 1) (slot_bytes table)

-- a table whole and well formed
pub record Stays (table : Bytes) : Type 0 where
  pub whole : whole_slots table ≡ true
  pub well : well_table table ≡ true

-- what the device's writer leaves with the number 0: the frame of the fields at the start of the buffer, which fits it and reads back to the fields
pub record ReadsBack (kind : ℕ) (f : Fields) (buffer : Bytes) (o : Written) : Type 0 where
  pub of_kind : Kind
  pub number : kind_of kind ≡ some of_kind
  pub starts : o.buffer ≡ over (write_request (request_of of_kind f)) buffer
  pub short : length (write_request (request_of of_kind f)) ≤ length buffer
  pub read : read_request (write_request (request_of of_kind f)) ≡ asks (request_of of_kind f)

-- the device's writer, given the fields that a frame f was read to, in arrays of their lengths, writes f again: in kinds 1 to 7 the same bytes, and
-- in every kind the same but for a verdict of 0, which becomes 1
pub record WrittenAgain (f : Bytes) (q : Request) (buffer : Bytes) : Type 0 where
  pub arrays : Arrays (fields_in q)
  pub same_bytes : kind_number f ≤ 7 → write (kind_number f) (fields_in q) buffer ≡ record { number = 0; buffer = over f buffer }
  pub but_verdict : write (kind_number f) (fields_in q) buffer ≡ record { number = 0; buffer = over (with_verdict f) buffer }

-- a reply of the agent's: that of an answer, of at most 4,279 bytes, and read by the device to the answer's kind, and to its status or what it gives
pub record Readable (table : Bytes) (c : Call) (o : Outcome) : Type 0 where
  pub answer : Answer
  pub replies : o ≡ replied (kind_number c.request) answer table c.buffer
  pub short : length (reply_frame (kind_number c.request) answer) ≤ reply_room
  pub read : read_reply (reply_frame (kind_number c.request) answer) ≡ sent (kind_number c.request) answer

-- ---- the theorems
pub record Theorems : Type 0 where
  -- a byte string whose bytes are all under 256 is one of the code's
  pub bytes_256 : (s : Bytes) → T (all (λ b. ltb b 256) s) → Bytes256 s
  -- PROFILE 2: bytes and what they hold, both ways
  pub unpack_pack : (s : Slot) → SlotFits s → unpack (pack s) ≡ s
  pub pack_unpack : (s : Bytes) → length s ≡ slot_size → Bytes256 s → well_slot s ≡ true → pack (unpack s) ≡ s
  pub unpacks : (table : Bytes) → Bytes256 table → whole_slots table ≡ true → well_table table ≡ true → Unpacks table
  pub packs : (t : List Slot) → TableFits t → distinct t ≡ true → 1 ≤ length t → length t ≤ 15 → Packs t
  pub apart : (t : List Slot) → (distinct t ≡ true) ↔ Apart t
  -- PROFILE 2.7: what the turning leaves, and that it changes nothing where it refuses; a table with a kept count is refused, and so one that was turned
  pub turns : (table : Bytes) → eqb (turn table).number 0 ≡ true → Turns table (turn table)
  pub turn_refuses : (table : Bytes) → eqb (turn table).number 0 ≡ false → (turn table).table ≡ table
  pub turned_once : (table : Bytes) → whole_slots table ≡ true → any keeps_count (slots_of table) ≡ true → turn table ≡ record { number = 103; table = table }
  -- PROFILE 2.10: what a salvage leaves, and that it changes nothing where it refuses; a well-formed table stays as it is, and so does one that was salvaged; where
  -- one slot of a well-formed table has come to other bytes, at most one slot is cleared, and any other than this one only if it now has its handle
  pub salvages : (table report : Bytes) → whole_slots table ≡ true → slot_count table ≤ length report → Salvages table report (salvage table report)
  pub salvage_refuses : (table report : Bytes) → 15 < (salvage table report).number → ((salvage table report).table ≡ table) × ((salvage table report).report ≡ report)
  pub nothing_damaged : (table report : Bytes) → whole_slots table ≡ true → well_table table ≡ true → slot_count table ≤ length report
      → salvage table report ≡ record { number = 0; table = table; report = over (zeros (slot_count table)) report }
  pub salvaged_twice : (table report again : Bytes) → whole_slots table ≡ true → slot_count table ≤ length report → slot_count table ≤ length again
      → salvage (salvage table report).table again ≡ record { number = 0; table = (salvage table report).table; report = over (zeros (slot_count table)) again }
  pub one_slot : (table report : Bytes) (i : ℕ) (s : Bytes) → whole_slots table ≡ true → well_table table ≡ true → slot_count table ≤ length report → length s ≡ slot_size
      → (salvage (joined (set (slot_bytes table) i s)) report).number ≤ 1
  pub other_slots : (table report : Bytes) (i : ℕ) (s : Bytes) → whole_slots table ≡ true → well_table table ≡ true → slot_count table ≤ length report → length s ≡ slot_size
      → (j : ℕ) (was is : Bytes) → (j ≡ i → ⊥) → get_elem? (slot_bytes table) j ≡ some was
      → get_elem? (slot_bytes (salvage (joined (set (slot_bytes table) i s)) report).table) j ≡ some is → Beside i s j was is
  -- PROFILE 6.4: a request reads back to the fields written; a frame that reads as a request is written again to the same bytes, but for its verdict
  pub read_fits : (f : Bytes) (q : Request) → read_request f ≡ asks q → RequestFits q
  pub read_write : (q : Request) → RequestFits q → read_request (write_request q) ≡ asks q
  pub written_reads : (kind : ℕ) (f : Fields) (buffer : Bytes) → Arrays f → eqb (write kind f buffer).number 0 ≡ true → ReadsBack kind f buffer (write kind f buffer)
  pub written_again : (f : Bytes) (q : Request) → Bytes256 f → read_request f ≡ asks q → (buffer : Bytes) → length f ≤ length buffer → WrittenAgain f q buffer
  -- PROFILE 6.4: every reply is read back
  pub replies_read : (table : Bytes) (c : Call) → eqb (agent table c).number 0 ≡ true → Readable table c (agent table c)
  -- PROFILE 4: refusals change nothing; the statuses are those of the refusals, and 0; 8 is never sent, and is read in no reply
  pub refuses : (table : Bytes) (c : Call) → Refuses table c (agent table c)
  pub never_8 : (table : Bytes) (c : Call) → eqb (agent table c).number 0 ≡ true → eqb (status_in (agent table c).reply) 8 ≡ false
  pub statuses : (s : ℕ) → (is_status s ≡ true) ↔ AStatus s
  pub never_read_8 : (f : Bytes) → status_in f ≡ 8 → read_reply f ≡ malformed
  -- PROFILE 4.1: a start that is no slot's number is 105, and one handle in two slots is 103, whatever the frame
  pub outside_105 : (table : Bytes) (c : Call) → reply_room ≤ length c.buffer → whole_slots table ≡ true → slot_count table ≤ c.start → agent table c ≡ refuse 105 table c
  pub twice_103 : (table : Bytes) (c : Call) → reply_room ≤ length c.buffer → whole_slots table ≡ true → c.start < slot_count table → (Apart (slots_of table) → ⊥)
      → agent table c ≡ refuse 103 table c
  -- a tally that is not the table's is 106, whatever the frame
  pub differs_106 : (table : Bytes) (c : Call) → reply_room ≤ length c.buffer → whole_slots table ≡ true → c.start < slot_count table → well_table table ≡ true
      → (c.tally ≡ tally_in table → ⊥) → agent table c ≡ refuse 106 table c
  -- PROFILE 2.5: a well-formed table stays so
  pub stays_well : (table : Bytes) → Bytes256 table → whole_slots table ≡ true → well_table table ≡ true → (c : Call) → Stays (agent table c).table
  -- PROFILE 2.8 and 8.5: the tally counts every slot once; where one slot changes, it loses what the slot counted for and gains what it counts for then; a turning
  -- changes no number of it
  pub counts_all : (t : List Slot) → CountsAll t
  pub tally_slot : (t : List Slot) (i : ℕ) (before after : Slot) → get_elem? t i ≡ some before → plus (tally_of (set t i after)) (in_slot before) ≡ plus (tally_of t) (in_slot after)
  pub turn_tally : (table : Bytes) → tally_in (turn table).table ≡ tally_in table
  -- after a call that gives 0 it is the one worked out afresh; a call that leaves the table as it was leaves every number of it
  pub tally_afresh : (table : Bytes) (c : Call) → eqb (agent table c).number 0 ≡ true → (agent table c).tally ≡ tally_in (agent table c).table
  pub tally_stays : (table : Bytes) (c : Call) → (agent table c).table ≡ table → (agent table c).tally ≡ c.tally
  -- carried along from a table's own tally it is never refused; so from an all-zero table of n slots with n, 0, 0, 0, 0
  pub carries_on : (table : Bytes) (cs : List Call) → Carries table (tally_in table) cs → In 106 (numbers_then table cs) → ⊥
  pub never_106 : (n : ℕ) → 1 ≤ n → n ≤ 15 → (cs : List Call) → Carries (blank_table n) (tally_with n 0 0 0 0) cs → In 106 (numbers_then (blank_table n) cs) → ⊥
  -- PROFILE 8.7: the change of a call of bytes is at most 65,535 either way, and never above 0; where the number is not 0 nothing is returned
  pub change_within : (table : Bytes) → Bytes256 table → (c : Call) → Bytes256 c.request → nat_abs (change_of table c) ≤ 65535
  pub never_above : (table : Bytes) (c : Call) → NotAbove (change_of table c)
  pub refused_return : (table : Bytes) (c : Call) → eqb (agent table c).number 0 ≡ false → return_of table c ≡ no_return
  -- PROFILE 4.5: with 108 everything stays as it was, and it is given exactly where the totals do not hold; else the outcome is the call's, word for word; what
  -- stands in the memory for the change makes no difference to anything else
  pub refused_108 : (table : Bytes) (c : Call) (t : Totals) (was : ℤ) → totals_hold t ≡ false → totalling table c t was ≡ record { outcome = refuse 108 table c; totals = t; change = was }
  pub gives_108 : (table : Bytes) (c : Call) (t : Totals) (was : ℤ) → ((totalling table c t was).outcome.number ≡ 108) ↔ (totals_hold t ≡ false)
  pub same_outcome : (table : Bytes) (c : Call) (t : Totals) (was : ℤ) → totals_hold t ≡ true → (totalling table c t was).outcome ≡ agent table c
  pub change_unread : (table : Bytes) (c : Call) (t : Totals) (a b : ℤ)
      → ((totalling table c t a).outcome ≡ (totalling table c t b).outcome) × ((totalling table c t a).totals ≡ (totalling table c t b).totals)
  -- PROFILE 8.7: totals within their bounds stay within them; along every sequence of totalling calls from 0 and 0 they are those that the ledger, the requests and
  -- the statuses tell, and 108 comes with 30,000 counted returns: from every well-formed table with the ledger read off it, and from an all-zero one
  pub stays_within : (table : Bytes) → Bytes256 table → (c : Call) → Bytes256 c.request → (t : Totals) (was : ℤ) → Within t → Within (totalling table c t was).totals
  pub totals_told : (table : Bytes) → Bytes256 table → whole_slots table ≡ true → well_table table ≡ true → (cs : List Call) → FrameBytes cs → TotalsFrom table cs
  pub totals_blank : (n : ℕ) → 1 ≤ n → n ≤ 15 → (cs : List Call) → FrameBytes cs → TotalsTold blank_ledger (blank_table n) cs
  pub total_not_above : (table : Bytes) (cs : List Call) → NotAbove (totals_then table no_totals cs).total
  -- PROFILE 5.1: the search from a start: the first empty slot on its way, if there is one, and no other; none exactly where every slot is taken, so
  -- from any two starts alike; from slot 0 the lowest
  pub first_empty : (start : ℕ) (t : List Slot) → start < length t → (Full t → ⊥) → FirstEmpty start t (first_empty_from start t)
  pub first_only : (start : ℕ) (t : List Slot) → start < length t → (i : ℕ) → FirstEmpty start t i → i ≡ first_empty_from start t
  pub none_empty : (start : ℕ) (t : List Slot) → start < length t → (first_empty_from start t ≡ length t) ↔ Full t
  pub none_alike : (a b : ℕ) (t : List Slot) → a < length t → b < length t → (first_empty_from a t ≡ length t) ↔ (first_empty_from b t ≡ length t)
  pub from_0 : (t : List Slot) → first_empty_from 0 t ≡ lowest_empty t
  -- PROFILE 5: the slot found under a handle, the slot that a setup takes, the handles listed; no other slot and no other list meets these laws
  pub found_is : (h : Bytes) (t : List Slot) → FoundIs h t (find h t)
  pub sets_first : (start : ℕ) (t : List Slot) (h : Bytes) (n : ℕ) (g : Given) (u : List Slot) → start < length t → act (first_empty_from start t) t (setup h n) ≡ done g u
      → SetsFirst start t h n u
  pub sets_only : (start : ℕ) (t : List Slot) (h : Bytes) (n : ℕ) (u : List Slot) → start < length t → SetsFirst start t h n u
      → u ≡ set t (first_empty_from start t) (taken h (reserved n))
  pub lists_exactly : (free : ℕ) (t : List Slot) (limit : ℕ) (q : List Bytes) → (g : Given) × (act free t (list limit q) ≡ done g t) × ListsExactly limit q t g
  pub lists_only : (free : ℕ) (t : List Slot) (limit : ℕ) (q : List Bytes) (g : Given) → ListsExactly limit q t g → act free t (list limit q) ≡ done g t
  -- PROFILE 2.9: a right on a card is listed, read, lent, retrieved, returned and removed whatever its hashes, and so where it has none
  pub in_use : (free : ℕ) (t : List Slot) → distinct t ≡ true → (i : ℕ) (h : Bytes) (r : Right) → get_elem? t i ≡ some (taken h (enabled r)) → OpenToUse free t i h r
  pub when_lent : (free : ℕ) (t : List Slot) → distinct t ≡ true → (i : ℕ) (h : Bytes) (r : Right) → get_elem? t i ≡ some (taken h (disabled r)) → OpenToReturn free t i h r
  -- PROFILE 5.5: a count does not raise another exactly where it is no higher; a return with a higher one is 9, and nothing else is; with every other count the right
  -- is returned (`when_lent`), and so it can be returned in any case
  pub raise_means : (earlier later : Count) → (raises earlier later ≡ false) ↔ NoHigher earlier later
  pub refused_9 : (free : ℕ) (t : List Slot) → distinct t ≡ true → (i : ℕ) (h : Bytes) (r : Right) → get_elem? t i ≡ some (taken h (disabled r))
      → (c : Count) → (NoHigher r.count c → ⊥) → act free t (enable h c) ≡ deny count_raised
  pub only_9 : (free : ℕ) (t : List Slot) (q : Request) → act free t q ≡ deny count_raised → Raises t q
  pub returned_anyway : (free : ℕ) (t : List Slot) → distinct t ≡ true → (i : ℕ) (h : Bytes) (r : Right) → get_elem? t i ≡ some (taken h (disabled r)) → ReturnedAnyway free t i h r
  -- PROFILE 8.3: where a slot of a well-formed table holds a right before a call and after it, the count is no higher afterwards; along whole sequences of calls this is
  -- a part of demand 3, below
  pub slot_never_rises : (table : Bytes) → Bytes256 table → whole_slots table ≡ true → well_table table ≡ true → (c : Call) (i : ℕ) (earlier later : Right)
      → HoldsRight (slots_of table) i earlier → HoldsRight (slots_of (agent table c).table) i later → NoHigher earlier.count later.count
  -- PROFILE 8.6: a right without a hash that stands on a card after a call stood there before it, in the same slot, if with another count
  pub none_comes : (table : Bytes) → Bytes256 table → whole_slots table ≡ true → well_table table ≡ true → (c : Call) (i : ℕ) (r : Right)
      → r.hashes ≡ [] → HoldsRight (slots_of (agent table c).table) i r → HoldsRightBut (slots_of table) i r
  -- from an all-zero table every right has a hash, and one that is enabled is found by each of its hashes
  pub all_have_one : (n : ℕ) → 1 ≤ n → n ≤ 15 → (cs : List Call) (i : ℕ) (r : Right) → HoldsRight (slots_of (table_after_all n cs)) i r → 1 ≤ length r.hashes
  pub by_course : (n : ℕ) → 1 ≤ n → n ≤ 15 → (cs : List Call) (free i : ℕ) (h : Bytes) (r : Right) → get_elem? (slots_of (table_after_all n cs)) i ≡ some (taken h (enabled r))
      → FoundByCourse free (slots_of (table_after_all n cs)) h r
  -- PROFILE 9, and every rule in worked cases, table by table
  pub bytes_hold : BytesCases.Hold
  pub sizes_hold : SizeCases.Hold
  pub tables_hold : TableCases.Hold
  pub turnings_hold : TurningCases.Hold
  pub salvages_hold : SalvageCases.Hold
  pub requests_hold : RequestCases.Hold
  pub acts_hold : ActCases.Hold
  pub cases_hold : Hold cases
  pub writer_hold : WriterCases.Hold
  pub replies_hold : ReplyCases.Hold
  pub listings_hold : ListingCases.Hold
  pub histories_hold : HistoryCases.Hold
  pub rises_hold : RisingCases.Hold
  pub demands_hold : DemandCases.Hold
  pub starts_hold : StartCases.Hold
  pub tallies_hold : TallyCases.Hold
  pub unlisted_hold : UnlistedCases.Hold
  pub totals_hold_lem : TotalCases.Hold
  -- PROFILE 8.3, of every well-formed table and every sequence of calls, from the ledger read off the table; so after a salvage and after a turning
  pub demand_from : (table : Bytes) → Bytes256 table → whole_slots table ≡ true → well_table table ≡ true → (cs : List Call) → Demand3From table cs
  pub after_salvage : (table report : Bytes) → Bytes256 table → whole_slots table ≡ true → slot_count table ≤ length report → (cs : List Call) → Demand3From (salvage table report).table cs
  pub after_turning : (table : Bytes) → Bytes256 table → eqb (turn table).number 0 ≡ true → (cs : List Call) → Demand3From (turn table).table cs
  -- the ledger of an all-zero table is empty, and so of every all-zero table of 1 to 15 slots and every sequence of calls
  pub blank_ledger_lem : (n : ℕ) → ledger_of (slots_of (blank_table n)) ≡ blank_ledger
  pub demand_3 : (n : ℕ) → 1 ≤ n → n ≤ 15 → (cs : List Call) → Demand3 n cs
  -- PROFILE 8.4: only a setup depends on the start at all, and of it only the slot: calls and sequences of calls that differ in their starts alone, on tables
  -- that hold the same records, are alike; so from an all-zero table the ledger is the same
  pub only_setups : (table : Bytes) (c d : Call) → OtherStart (slot_count table) c d → ((h : Bytes) (n : ℕ) → read_request c.request ≡ asks (setup h n) → ⊥) → agent table c ≡ agent table d
  pub same_call : (table other : Bytes) → AlikeButPlaces table other → (c d : Call) → OtherStart (slot_count table) c d → SameCall table other c d
  pub same_run : (table other : Bytes) → AlikeButPlaces table other → (cs ds : List Call) → OtherStarts (slot_count table) cs ds → SameRun table other cs ds
  pub same_ledger : (n : ℕ) → 1 ≤ n → n ≤ 15 → (cs ds : List Call) → OtherStarts n cs ds → ledger_then n cs ≡ ledger_then n ds
