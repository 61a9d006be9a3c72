-- PROFILE 2.9 and 8.6: rights without a hash: what is open to one that is on a card, and that no other comes onto it.
use Rattle.std.specs.Prelude.{ℕ, ◌≤◌, ◌≡◌, List, [], ◌∷◌, false, length, set}
use Rattle.std.proofs.Math.Option.{Option, none, some}
use Rattle.std.proofs.Math.ListN.{get_elem?}
use Rattle.profile.specs.Bytes.{Bytes, In}
use Rattle.profile.specs.Slot.{Count, Right, recount, reserved, enabled, disabled, Slot, empty, taken, in_use}
use Rattle.profile.specs.Request.{retrieve, rek, enable, remove, list, info}
use Rattle.profile.specs.Agent.{nothing, the_right, the_key, handles, counted, done, act}
use Rattle.profile.specs.Rising.{NoHigher}

-- ---- PROFILE 2.9: none of these asks for a right's hashes; so they hold of a right without one, too
-- a list query for the hashes q, or for all handles, without a limit: the list is whole, and has the handle h
pub record Listed (free : ℕ) (t : List Slot) (q : List Bytes) (h : Bytes) : Type 0 where
  pub all : List Bytes
  pub gives : act free t (list 0 q) ≡ done (handles false all) t
  pub has : In h all

-- the right r is enabled under h in slot i: it is listed where all handles are asked for, read, lent, retrieved and removed
pub record OpenToUse (free : ℕ) (t : List Slot) (i : ℕ) (h : Bytes) (r : Right) : Type 0 where
  pub is_listed : Listed free t [] h
  pub is_read : act free t (info h) ≡ done (counted r.count r.payload) t
  pub is_lent : (k : Bytes) → in_use k t ≡ false → act free t (rek h k) ≡ done (the_key r.key) (set t i (taken k (disabled r)))
  pub is_retrieved : (k : Bytes) → in_use k t ≡ false → act free t (retrieve h k) ≡ done (the_right r) (set t i (taken k (disabled r)))
  pub is_removed : act free t (remove h) ≡ done nothing (set t i empty)

-- the right r is disabled under h in slot i: it is returned, with a count that is no higher, and removed
pub record OpenToReturn (free : ℕ) (t : List Slot) (i : ℕ) (h : Bytes) (r : Right) : Type 0 where
  pub is_returned : (c : Count) → NoHigher r.count c → act free t (enable h c) ≡ done nothing (set t i (taken h (enabled (recount c r))))
  pub is_removed : act free t (remove h) ≡ done nothing (set t i empty)

-- ---- PROFILE 8.6
-- the right in a slot, enabled or disabled
abbrev pub slot_right : Slot → Option Right
slot_right empty = none
slot_right (taken h (reserved n)) = none
slot_right (taken h (enabled r)) = some r
slot_right (taken h (disabled r)) = some r

-- slot i holds the right r
pub record HoldsRight (t : List Slot) (i : ℕ) (r : Right) : Type 0 where
  pub slot : Slot
  pub there : get_elem? t i ≡ some slot
  pub holds : slot_right slot ≡ some r

-- it holds the right r, with this count or another
pub record HoldsRightBut (t : List Slot) (i : ℕ) (r : Right) : Type 0 where
  pub count : Count
  pub stands : HoldsRight t i (recount count r)

-- the right r, enabled under h, is found by course: it has a hash, and whichever of its hashes is asked for, the list has its handle
pub record FoundByCourse (free : ℕ) (t : List Slot) (h : Bytes) (r : Right) : Type 0 where
  pub some_hash : 1 ≤ length r.hashes
  pub by_each : (x : Bytes) → In x r.hashes → Listed free t (x ∷ []) h
