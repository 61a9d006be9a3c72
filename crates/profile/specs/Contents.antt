-- PROFILE 8.3: what each right holds, told right by right: from what it was at first or from its installation, and from the returns that gave it a count.
use Rattle.std.specs.Prelude.{ℕ, ◌+◌, ◌≡◌, List, [], ◌∷◌, ◌++◌, Bool, true, false, ◌&&◌, length, eqb, if◌then◌else◌}
use Rattle.std.proofs.Math.Option.{some}
use Rattle.std.proofs.Math.ListN.{get_elem?}
use Rattle.profile.specs.Bytes.{Bytes, same}
use Rattle.profile.specs.Slot.{Count, Right}
use Rattle.profile.specs.Request.{Request, setup, install, retrieve, rek, enable, remove, cancel, list, info}
use Rattle.profile.specs.History.{Owned, for_use, lent, gone, Ledger, right_number, Exchange}

-- ---- installations
-- an installation that succeeded: its handle, the right that it sent, and the exchanges after it
pub record Installed : Type 0 where
  pub handle : Bytes
  pub right : Right
  pub later : List Exchange

-- a request that succeeded, with the exchanges after it: kind 2 is an installation, no other is
abbrev pub installed : Request → List Exchange → List Installed
installed (setup h n) xs = []
installed (install h r) xs = record { handle = h; right = r; later = xs } ∷ []
installed (retrieve h k) xs = []
installed (rek h k) xs = []
installed (enable h c) xs = []
installed (remove h) xs = []
installed (cancel h) xs = []
installed (list limit q) xs = []
installed (info h) xs = []

-- those that succeeded, in their order
abbrev pub installations : List Exchange → List Installed
installations [] = []
installations (x ∷ xs) = (if eqb x.status 0 then installed x.request xs else []) ++ installations xs

-- ---- the count last given to a right
-- a right under the handle h, lent or not, with the count c, and a request that succeeded: how it goes on
abbrev pub follow : Bytes → Bool → Count → Request → (Bytes → Bool → Count → Count) → Count
follow h isLent c (setup g n) on = on h isLent c
follow h isLent c (install g r) on = on h isLent c
-- lent from its handle, it is found under the new one
follow h isLent c (retrieve g k) on = if same g h then on k true c else on h isLent c
follow h isLent c (rek g k) on = if same g h then on k true c else on h isLent c
-- a return gives a lent right its count; one for use stays as it is
follow h isLent c (enable g d) on = if same g h && isLent then on h false d else on h isLent c
-- a right that is gone keeps the count it had
follow h isLent c (remove g) on = if same g h then c else on h isLent c
follow h isLent c (cancel g) on = on h isLent c
follow h isLent c (list limit q) on = on h isLent c
follow h isLent c (info g) on = on h isLent c

-- over some exchanges, of which those with status 0 count
abbrev pub last_count : Bytes → Bool → Count → List Exchange → Count
last_count h isLent c [] = c
last_count h isLent c (x ∷ xs) =
    if eqb x.status 0 then follow h isLent c x.request (λ h' isLent' c'. last_count h' isLent' c' xs)
    else last_count h isLent c xs

-- ---- the ledger's rights
-- what a right of the ledger holds, for use, lent or gone
abbrev pub held : Owned → Right
held (for_use h r) = r
held (lent h r) = r
held (gone r) = r

-- the count of a right that was o before some exchanges; one that is gone keeps its count
abbrev pub count_after : Owned → List Exchange → Count
count_after (for_use h r) xs = last_count h false r.count xs
count_after (lent h r) xs = last_count h true r.count xs
count_after (gone r) xs = r.count

-- PROFILE 8.3: of a right that was o before some exchanges, the key, hashes and payload that it had then; the count of the last return that gave one, or
-- the one that it had
pub record Holds (o : Owned) (xs : List Exchange) (r : Right) : Type 0 where
  pub key : r.key ≡ (held o).key
  pub hashes : r.hashes ≡ (held o).hashes
  pub payload : r.payload ≡ (held o).payload
  pub count : r.count ≡ count_after o xs

-- from the ledger `first` on: the rights that there were and as many more as installations; each of the first holds what it held, and right number i after
-- them what installation number i sent
pub record Contents (first : Ledger) (xs : List Exchange) (l : Ledger) : Type 0 where
  pub as_many : length l.rights ≡ length first.rights + length (installations xs)
  pub stood : (i : ℕ) (u o : Owned) → right_number i first ≡ some u → right_number i l ≡ some o → Holds u xs (held o)
  pub came : (i : ℕ) (o : Owned) (p : Installed) → right_number (length first.rights + i) l ≡ some o → get_elem? (installations xs) i ≡ some p
      → Holds (for_use p.handle p.right) p.later (held o)
