-- PROFILE 8.4: calls that differ in their starts alone, and what does not depend on where the search of a setup begins.
use Rattle.std.specs.Prelude.{ℕ, ◌≡◌, ◌↔◌, List, [], ◌∷◌, Bool, true, false, eqb, ltb, length, if◌then◌else◌}
use Rattle.profile.specs.Bytes.{Bytes, Bytes256, In, over, joined}
use Rattle.profile.specs.Slot.{Slot}
use Rattle.profile.specs.Table.{slots_of, whole_slots, well_table}
use Rattle.profile.specs.Frame.{frame}
use Rattle.profile.specs.Request.{list, asks, read_request}
use Rattle.profile.specs.Agent.{Call, agent}
use Rattle.profile.specs.History.{Ledger, history}
use Rattle.profile.specs.Run.{exchange_of, exchanges, table_then, numbers_then, under_slots}
use Rattle.profile.specs.Laws.{Shown}

-- ---- tables with the same records
-- as many slots, and the same record under every handle; the records may stand in other slots
pub record SameRecords (t u : List Slot) : Type 0 where
  pub as_many : length t ≡ length u
  pub each : (h : Bytes) → under_slots h t ≡ under_slots h u

-- two well-formed tables that hold the same records
pub record AlikeButPlaces (table other : Bytes) : Type 0 where
  pub bytes : Bytes256 table
  pub whole : whole_slots table ≡ true
  pub well : well_table table ≡ true
  pub other_bytes : Bytes256 other
  pub other_whole : whole_slots other ≡ true
  pub other_well : well_table other ≡ true
  pub records : SameRecords (slots_of table) (slots_of other)

-- ---- calls with other starts
-- on n slots: the same tally, the same frame and the same buffer, and both starts are numbers of slots, or neither is
pub record OtherStart (n : ℕ) (c d : Call) : Type 0 where
  pub tallies_agree : c.tally ≡ d.tally
  pub same_request : c.request ≡ d.request
  pub same_buffer : c.buffer ≡ d.buffer
  pub both_inside : ltb c.start n ≡ ltb d.start n

-- the same of two sequences, call by call
abbrev pub OtherStarts : ℕ → List Call → List Call → Type 0
OtherStarts n [] [] = Unit {0}
OtherStarts n [] (d ∷ ds) = ⊥
OtherStarts n (c ∷ cs) [] = ⊥
OtherStarts n (c ∷ cs) (d ∷ ds) = OtherStart n c d × OtherStarts n cs ds

-- ---- what does not depend on the start
-- two replies to a list query, of the slots t and of the slots u: they say alike whether there are more, and have as many handles, each of which the other
-- slots have to show too; where none is left off, they are the same handles
pub record SameList (q : List Bytes) (t u : List Slot) (buffer reply other : Bytes) : Type 0 where
  pub more : Bool
  pub listed : List Bytes
  pub other_listed : List Bytes
  pub replies : reply ≡ over (frame 8 0 ((if more then 128 else 0) ∷ joined listed)) buffer
  pub other_replies : other ≡ over (frame 8 0 ((if more then 128 else 0) ∷ joined other_listed)) buffer
  pub as_many : length listed ≡ length other_listed
  pub shown : (h : Bytes) → In h listed → Shown q u h
  pub other_shown : (h : Bytes) → In h other_listed → Shown q t h
  pub same_handles : more ≡ false → (h : Bytes) → In h listed ↔ In h other_listed

-- two calls: the same number, the same request and status, the same records and the same tally afterwards; and the same reply, every byte of it, but for the
-- order of a list
pub record SameCall (table other : Bytes) (c d : Call) : Type 0 where
  pub number : (agent table c).number ≡ (agent other d).number
  pub exchange : exchange_of table c ≡ exchange_of other d
  pub records : SameRecords (slots_of (agent table c).table) (slots_of (agent other d).table)
  pub tally : (agent table c).tally ≡ (agent other d).tally
  pub reply : ((limit : ℕ) (q : List Bytes) → read_request c.request ≡ asks (list limit q) → ⊥) → (agent table c).reply ≡ (agent other d).reply
  pub lists : (limit : ℕ) (q : List Bytes) → read_request c.request ≡ asks (list limit q) → eqb (agent table c).number 0 ≡ true
      → SameList q (slots_of table) (slots_of other) c.buffer (agent table c).reply (agent other d).reply

-- two sequences of calls: the same numbers, the same exchanges, and so the same ledger; the same records afterwards
pub record SameRun (table other : Bytes) (cs ds : List Call) : Type 0 where
  pub same_numbers : numbers_then table cs ≡ numbers_then other ds
  pub same_exchanges : exchanges table cs ≡ exchanges other ds
  pub same_ledger : (l : Ledger) → history l (exchanges table cs) ≡ history l (exchanges other ds)
  pub records : SameRecords (slots_of (table_then table cs)) (slots_of (table_then other ds))
