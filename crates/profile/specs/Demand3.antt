-- PROFILE 8.3, whole: what holds after every sequence of calls on a well-formed table, an all-zero one or any other.
use Rattle.std.specs.Prelude.{ℕ, ◌+◌, ◌*◌, ◌≡◌, ◌↔◌, List, [], ◌∷◌, ◌++◌, Bool, true, false, ◌&&◌, eqb, length, take, drop}
use Rattle.std.proofs.Math.Option.{some}
use Rattle.std.proofs.Math.ListN.{get_elem?}
use Rattle.profile.specs.Bytes.{Bytes, same, part, any, In, over}
use Rattle.profile.specs.Slot.{Count, kept_bit, Right, Entry, reserved, enabled, disabled, Slot, taken}
use Rattle.profile.specs.Table.{slot_bytes, slots_of, whole_slots, well_table}
use Rattle.profile.specs.Frame.{frame, write_right}
use Rattle.profile.specs.Request.{Request, setup, install, retrieve, rek, enable, remove, cancel, list, info}
use Rattle.profile.specs.Agent.{Call, agent}
use Rattle.profile.specs.History.{open_setup, Owned, for_use, lent, Ledger, blank_ledger, right_number, Exchange}
use Rattle.profile.specs.Run.{exchange_of, exchanges, table_then, blank_table, ledger_of, ledger_on, under_slots, Agrees}
use Rattle.profile.specs.Contents.{Installed, installations, held, Contents}
use Rattle.profile.specs.Rising.{NoHigher}

-- ---- rights and records, one to one
-- the right o stands under h, and e is its record
pub data Stands : Owned → Bytes → Entry → Type 0 where
  usable : {h : Bytes} {r : Right} → Stands (for_use h r) h (enabled r)
  is_lent : {h : Bytes} {r : Right} → Stands (lent h r) h (disabled r)

-- an enabled or disabled record
abbrev pub IsRight : Entry → Type 0
IsRight (reserved n) = ⊥
IsRight (enabled r) = Unit {0}
IsRight (disabled r) = Unit {0}

-- each right for use or lent has one record, each enabled or disabled record is that of a right, and no two rights share one;
-- a right is known by its number, so two installations of the same bytes are two rights
pub record Mirrors (l : Ledger) (t : List Slot) : Type 0 where
  pub recorded : (i : ℕ) (o : Owned) (h : Bytes) (e : Entry) → right_number i l ≡ some o → Stands o h e → under_slots h t ≡ e ∷ []
  pub righted : (h : Bytes) (e : Entry) → IsRight e → under_slots h t ≡ e ∷ [] → (i : ℕ) × (o : Owned) × (right_number i l ≡ some o) × Stands o h e
  pub single : (i j : ℕ) (o u : Owned) (h : Bytes) (e f : Entry) → right_number i l ≡ some o → Stands o h e → right_number j l ≡ some u → Stands u h f → i ≡ j

-- the same, place by place and right by right: an enabled record for each right for use, a disabled one for each that is lent, a reserved one for
-- each setup still open, under the same handle and with the same content, and no other record; no two records under one handle
pub record Records (l : Ledger) (t : List Slot) : Type 0 where
  pub used : (h : Bytes) (r : Right) → In (taken h (enabled r)) t ↔ In (for_use h r) l.rights
  pub away : (h : Bytes) (r : Right) → In (taken h (disabled r)) t ↔ In (lent h r) l.rights
  pub awaited : (h : Bytes) (n : ℕ) → In (taken h (reserved n)) t ↔ In (open_setup h n) l.setups
  pub apart : (i j : ℕ) (h : Bytes) (e f : Entry) → get_elem? t i ≡ some (taken h e) → get_elem? t j ≡ some (taken h f) → i ≡ j

-- ---- keys that go out, and returns
-- kinds 3 and 4: the request, the handle and the new handle
pub data Lends : Request → Bytes → Bytes → Type 0 where
  by_retrieval : {h k : Bytes} → Lends (retrieve h k) h k
  by_rek : {h k : Bytes} → Lends (rek h k) h k

-- on this table the call asks for the key under h with the new handle k, and has it
pub record KeyOut (table : Bytes) (c : Call) (h k : Bytes) : Type 0 where
  pub asked : Request
  pub lends : Lends asked h k
  pub success : exchange_of table c ≡ record { request = asked; status = 0 } ∷ []

-- a key goes out only for a right that is for use at that moment: a right is for use under h by the ledger l, and its key is what the reply
-- holds after its head; what was for use under h is lent under k by the ledger l'
pub record LentOut (l l' : Ledger) (asked : Request) (h k buffer reply : Bytes) : Type 0 where
  pub number : ℕ
  pub right : Right
  pub usable : right_number number l ≡ some (for_use h right)
  pub sent : part 4 16 reply ≡ right.key
  -- kind 3 sends this right whole, kind 4 its key; nothing else of the buffer is changed, so nothing of another right goes out
  pub whole : asked ≡ retrieve h k → reply ≡ over (frame 3 (128 * kept_bit right.count) (write_right right)) buffer
  pub alone : asked ≡ rek h k → reply ≡ over (frame 4 0 right.key) buffer
  pub then_lent : (i : ℕ) (r : Right) → right_number i l ≡ some (for_use h r) → right_number i l' ≡ some (lent k r)

-- the key that goes out is that of the right of number i
pub record KeyOf (i : ℕ) (l : Ledger) (table : Bytes) (c : Call) (h k : Bytes) : Type 0 where
  pub out : KeyOut table c h k
  pub right : Right
  pub usable : right_number i l ≡ some (for_use h right)

-- a return under the handle k
abbrev pub is_return : Bytes → Request → Bool
is_return k (setup h n) = false
is_return k (install h r) = false
is_return k (retrieve h j) = false
is_return k (rek h j) = false
is_return k (enable h c) = same k h
is_return k (remove h) = false
is_return k (cancel h) = false
is_return k (list limit q) = false
is_return k (info h) = false

-- one of the exchanges is a return under k that succeeded
abbrev pub returned : Bytes → List Exchange → Bool
returned k xs = any (λ x. eqb x.status 0 && is_return k x.request) xs

-- ---- replies that give no key
-- slots of which each has the bytes of the other's, but for its key, bytes 11 to 26
abbrev pub ButKeys : List Bytes → List Bytes → Type 0
ButKeys [] [] = Unit {0}
ButKeys [] (y ∷ ys) = ⊥
ButKeys (x ∷ xs) [] = ⊥
ButKeys (x ∷ xs) (y ∷ ys) = (take 11 x ≡ take 11 y) × (drop 27 x ≡ drop 27 y) × ButKeys xs ys

-- well-formed tables that differ in keys alone
pub record AlikeButKeys (table other : Bytes) : Type 0 where
  pub whole : whole_slots table ≡ true
  pub well : well_table table ≡ true
  pub other_whole : whole_slots other ≡ true
  pub other_well : well_table other ≡ true
  pub alike : ButKeys (slot_bytes table) (slot_bytes other)

-- ---- PROFILE 8.3, after the calls cs on a table of which the ledger l told before them
pub record Demand3On (l : Ledger) (table : Bytes) (cs : List Call) : Type 0 where
  -- the table is whole and well formed
  pub whole : whole_slots (table_then table cs) ≡ true
  pub well : well_table (table_then table cs) ≡ true
  -- slots and ledger agree: handle by handle, right by right, record by record
  pub agrees : Agrees (ledger_on l table cs) (slots_of (table_then table cs))
  pub mirrors : Mirrors (ledger_on l table cs) (slots_of (table_then table cs))
  pub records : Records (ledger_on l table cs) (slots_of (table_then table cs))
  -- each right has the key, hashes and payload that it had in the ledger before the calls or that its installation sent, and the count last given to it
  pub contents : Contents l (exchanges table cs) (ledger_on l table cs)
  -- the count of a right never rises: as the ledger has it after further calls, for use, lent or gone, it is no higher than after these
  pub never_rises : (more : List Call) (i : ℕ) (earlier later : Owned)
      → right_number i (ledger_on l table cs) ≡ some earlier
      → right_number i (ledger_on l table (cs ++ more)) ≡ some later
      → NoHigher (held earlier).count (held later).count
  -- and so it is no higher than the one that its installation sent
  pub since_installed : (i : ℕ) (o : Owned) (p : Installed) → right_number (length l.rights + i) (ledger_on l table cs) ≡ some o → get_elem? (installations (exchanges table cs)) i ≡ some p
      → NoHigher p.right.count (held o).count
  -- a key goes out only for a right that is for use at that moment, and what goes out is of this right
  pub key_out : (c : Call) (h k : Bytes) (o : KeyOut (table_then table cs) c h k)
      → LentOut (ledger_on l table cs) (ledger_on l table (cs ++ (c ∷ []))) o.asked h k c.buffer (agent (table_then table cs) c).reply
  -- if the right of number i is for use under h when its key goes out, and for use again after further calls,
  -- then among these a return under the handle k, set when the key went out, has succeeded
  pub between : (c : Call) (h k : Bytes) → KeyOut (table_then table cs) c h k → (more : List Call) (i : ℕ) (h' : Bytes) (r r' : Right)
      → right_number i (ledger_on l table cs) ≡ some (for_use h r)
      → right_number i (ledger_on l table (cs ++ (c ∷ more))) ≡ some (for_use h' r')
      → returned k (exchanges (table_then table (cs ++ (c ∷ []))) more) ≡ true
  -- of two replies with the key of one right, the first of which set the handle k: between them a return under k has succeeded
  pub two_keys : (i : ℕ) (first second : Call) (more : List Call) (h k h' k' : Bytes)
      → KeyOf i (ledger_on l table cs) (table_then table cs) first h k
      → KeyOf i (ledger_on l table (cs ++ (first ∷ more))) (table_then table (cs ++ (first ∷ more))) second h' k'
      → (c : Count) × In (record { request = enable k c; status = 0 }) (exchanges (table_then table (cs ++ (first ∷ []))) more)
  -- no reply depends on any key but that of a successful kind 3 or 4: neither one to another kind, nor a refusal
  pub keys_unseen : (other : Bytes) → AlikeButKeys (table_then table cs) other → (c : Call) → ((h k : Bytes) → KeyOut (table_then table cs) c h k → ⊥)
      → ((agent (table_then table cs) c).number ≡ (agent other c).number) × ((agent (table_then table cs) c).reply ≡ (agent other c).reply)

-- from any table, with the ledger read off it; and from an all-zero table of n slots, with an empty one
abbrev pub Demand3From : Bytes → List Call → Type 0
Demand3From table cs = Demand3On (ledger_of (slots_of table)) table cs

abbrev pub Demand3 : ℕ → List Call → Type 0
Demand3 n cs = Demand3On blank_ledger (blank_table n) cs
