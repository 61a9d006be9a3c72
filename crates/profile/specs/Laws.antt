-- PROFILE 2.5, 4, 5.1 and 5.8 said once more, each rule in another way than its definition says it: so that a wrong definition is refused.
use Rattle.std.specs.Prelude.{ℕ, ◌+◌, ◌-◌, ◌*◌, ◌≤◌, ◌<◌, ◌≡◌, ◌⊎◌, ◌↔◌, List, [], ◌∷◌, ◌++◌, Bool, true, false, eqb, ltb, length, set, if◌then◌else◌}
use Rattle.std.proofs.Math.Option.{some}
use Rattle.std.proofs.Math.ListN.{get_elem?}
use Rattle.profile.specs.Bytes.{Bytes, In, over}
use Rattle.profile.specs.Slot.{Right, Entry, reserved, enabled, disabled, Slot, empty, taken}
use Rattle.profile.specs.Frame.{Refusal, code, kind_number, status_in}
use Rattle.profile.specs.Agent.{Given, handles, Found, absent, one, Call, Outcome}

-- ---- PROFILE 2.5
-- the handles of non-empty slots are all different: two slots with one handle are one slot
abbrev pub Apart : List Slot → Type 0
Apart t = (i j : ℕ) (h : Bytes) (e f : Entry) → get_elem? t i ≡ some (taken h e) → get_elem? t j ≡ some (taken h f) → i ≡ j

-- ---- PROFILE 4
-- a call that gives a number changes nothing; one that gives a status writes four bytes, the kind as asked and the status in them, and changes nothing else
pub record Refuses (table : Bytes) (c : Call) (o : Outcome) : Type 0 where
  pub by_number : eqb o.number 0 ≡ false → (o.reply ≡ c.buffer) × (o.table ≡ table) × (o.tally ≡ c.tally)
  pub by_status : eqb o.number 0 ≡ true → eqb (status_in o.reply) 0 ≡ false
      → (o.reply ≡ over ((32 + kind_number c.request) ∷ status_in o.reply ∷ 0 ∷ 0 ∷ []) c.buffer) × (o.table ≡ table) × (o.tally ≡ c.tally)

-- PROFILE 4.2: a status is 0, or the number of a refusal
abbrev pub AStatus : ℕ → Type 0
AStatus s = (s ≡ 0) ⊎ ((r : Refusal) × (code r ≡ s))

-- a handle is found in a slot that has it, and is absent where no slot has it
abbrev pub FoundIs : Bytes → List Slot → Found → Type 0
FoundIs h t absent = (i : ℕ) (e : Entry) → get_elem? t i ≡ some (taken h e) → ⊥
FoundIs h t (one i e) = get_elem? t i ≡ some (taken h e)

-- ---- PROFILE 5.1
-- of n slots, the one that is k steps on from the start: after the last one comes slot 0
abbrev pub onward : ℕ → ℕ → ℕ → ℕ
onward n start k = if ltb (start + k) n then start + k else start + k - n

-- every slot is taken: none is empty
abbrev pub Full : List Slot → Type 0
Full t = (i : ℕ) → get_elem? t i ≡ some empty → ⊥

-- slot i is empty, and is reached from the start past slots that are not, before the start is reached again
pub record FirstEmpty (start : ℕ) (t : List Slot) (i : ℕ) : Type 0 where
  pub steps : ℕ
  pub within : steps < length t
  pub reached : i ≡ onward (length t) start steps
  pub is_empty : get_elem? t i ≡ some empty
  pub none_before : (k : ℕ) → k < steps → get_elem? t (onward (length t) start k) ≡ some empty → ⊥

-- a setup takes the first empty slot from the start, and changes it alone
pub record SetsFirst (start : ℕ) (t : List Slot) (h : Bytes) (n : ℕ) (u : List Slot) : Type 0 where
  pub free : ℕ
  pub first : FirstEmpty start t free
  pub after : u ≡ set t free (taken h (reserved n))

-- ---- PROFILE 5.8
-- a right is asked for: it has one of the hashes asked for, or none was asked for
abbrev pub AskedFor : List Bytes → Right → Type 0
AskedFor q r = (q ≡ []) ⊎ ((x : Bytes) × In x q × In x r.hashes)

-- the handles of enabled records asked for, slot by slot
pub data InSlotOrder (q : List Bytes) : List Slot → List Bytes → Type 0 where
  no_slot : InSlotOrder q [] []
  asked_for : {h : Bytes} {r : Right} {t : List Slot} {hs : List Bytes} → AskedFor q r → InSlotOrder q t hs → InSlotOrder q (taken h (enabled r) ∷ t) (h ∷ hs)
  not_asked : {h : Bytes} {r : Right} {t : List Slot} {hs : List Bytes} → (AskedFor q r → ⊥) → InSlotOrder q t hs → InSlotOrder q (taken h (enabled r) ∷ t) hs
  is_lent : {h : Bytes} {r : Right} {t : List Slot} {hs : List Bytes} → InSlotOrder q t hs → InSlotOrder q (taken h (disabled r) ∷ t) hs
  is_reserved : {h : Bytes} {n : ℕ} {t : List Slot} {hs : List Bytes} → InSlotOrder q t hs → InSlotOrder q (taken h (reserved n) ∷ t) hs
  is_empty : {t : List Slot} {hs : List Bytes} → InSlotOrder q t hs → InSlotOrder q (empty ∷ t) hs

-- an enabled record under h that is asked for
pub record Shown (q : List Bytes) (t : List Slot) (h : Bytes) : Type 0 where
  pub slot : ℕ
  pub right : Right
  pub stands : get_elem? t slot ≡ some (taken h (enabled right))
  pub asked : AskedFor q right

-- a limit of 0 lets all handles through, another as many whole ones as fit in its bytes; `more` says whether any was left off
pub record WithinLimit (limit : ℕ) (hs : List Bytes) (g : Given) : Type 0 where
  pub first : List Bytes
  pub left_off : List Bytes
  pub parts : hs ≡ first ++ left_off
  pub more : Bool
  pub gives : g ≡ handles more first
  pub unlimited : limit ≡ 0 → left_off ≡ []
  pub fit : 1 ≤ limit → 10 * length first ≤ limit
  pub no_more_fit : 1 ≤ length left_off → limit < 10 * length first + 10
  pub says_more : 1 ≤ length left_off → more ≡ true
  pub says_all : left_off ≡ [] → more ≡ false

-- what kind 8 gives: the handles asked for, as many as the limit lets; a handle is one of them exactly if an enabled record under it is asked for
pub record ListsExactly (limit : ℕ) (q : List Bytes) (t : List Slot) (g : Given) : Type 0 where
  pub all : List Bytes
  pub ordered : InSlotOrder q t all
  pub exact : (h : Bytes) → In h all ↔ Shown q t h
  pub limited : WithinLimit limit all g
