-- Every count on a table of bytes has 16 bits, and so has every count that a frame of bytes sends; a call leaves it so.
use Prim.Native.Nat.{ℕ, zero, suc, ◌+◌, ◌≤◌}
use mathlib.Core.Path.{◌≡◌, ap, ◌∙◌}
use mathlib.Core.Logic.{◌⊎◌, inl, inr}
use mathlib.Core.List.{List, [], ◌∷◌, map}
use mathlib.Core.Option.{some, some-injective}
use native.Mathlib.Omega.{arith}
use lib.ListN.{get_or, get_elem?, set, take, drop}
use Rattle.profile.specs.Bytes.{Bytes, Bytes256, word, pieces}
use Rattle.profile.specs.Slot.{Count, count_number, count_with, Right, recount, reserved, enabled, disabled, Slot, empty, taken}
use Rattle.profile.specs.Table.{kept_of, place_of, handle_of, length_of, right_of, unpack, slot_count, slot_bytes, slots_of}
use Rattle.profile.specs.Frame.{Kind, setup_kind, install_kind, retrieve_kind, rek_kind, enable_kind, remove_kind, cancel_kind, list_kind, info_kind, body}
use Rattle.profile.specs.Request.{Request, setup, install, retrieve, rek, enable, remove, cancel, list, info, kept_asked, fields}
use Rattle.profile.specs.Agent.{Given}
use Rattle.profile.specs.Unlisted.{slot_right, HoldsRight}
use Rattle.profile.proofs.FirstEmpty.{not_there}
use Rattle.profile.proofs.Strings.{bytes_take, bytes_drop}
use Rattle.profile.proofs.Frames.{Reads}
use Rattle.profile.proofs.Steps.{Stays, LendsOut, Returns, Does}
use Rattle.profile.proofs.Unlisted.{set_at, found_at}

abbrev pub Small : Count → Type 0
Small c = count_number c ≤ 65535

word_small : (at : ℕ) (s : Bytes) → Bytes256 s → word at s ≤ 65535
word_small at s b = omega (arith, b at, b (at + 1))

count_small : (bit n : ℕ) → n ≤ 65535 → Small (count_with bit n)
count_small zero n h = omega arith
count_small (suc b) n h = h

-- ---- on a table
abbrev pub CountsFit : List Slot → Type 0
CountsFit t = (i : ℕ) (r : Right) → HoldsRight t i r → Small r.count

-- by the place of a slot: where it holds a right, that is the one that its bytes say
read_right : (s : Bytes) (r : Right) → slot_right (unpack s) ≡ some r → right_of s ≡ r
unfolding unpack
read_right s r e = go (place_of s) e
  where
    go : (p : ℕ) → slot_right (get_or (empty ∷ taken (handle_of s) (reserved (length_of s)) ∷ taken (handle_of s) (enabled (right_of s)) ∷ []) p (taken (handle_of s) (disabled (right_of s)))) ≡ some r → right_of s ≡ r
    go zero e = absurd (not_there e)
    go (suc zero) e = absurd (not_there e)
    go (suc (suc zero)) e = some-injective (right_of s) r e
    go (suc (suc (suc p))) e = some-injective (right_of s) r e

slot_small : (s : Bytes) → Bytes256 s → (r : Right) → slot_right (unpack s) ≡ some r → Small r.count
slot_small s b r e = rw (← read_right s r e) (count_small (kept_of s) (word 27 s) (word_small 27 s b))

pieces_small : (n : ℕ) (s : Bytes) → Bytes256 s → CountsFit (map unpack (pieces 4288 n s))
pieces_small zero s b i r w = absurd (not_there w.there)
pieces_small (suc n) s b zero r w =
    slot_small (take 4288 s) (bytes_take 4288 s b) r (ap slot_right (some-injective (unpack (take 4288 s)) w.slot w.there) ∙ w.holds)
pieces_small (suc n) s b (suc i) r w = pieces_small n (drop 4288 s) (bytes_drop 4288 s b) i r (record { slot = w.slot; there = w.there; holds = w.holds })

pub table_small : (table : Bytes) → Bytes256 table → CountsFit (slots_of table)
unfolding slots_of slot_bytes
table_small table b = pieces_small (slot_count table) table b

-- ---- in a request
abbrev pub RequestSmall : Request → Type 0
RequestSmall (setup h n) = Unit {0}
RequestSmall (install h r) = Small r.count
RequestSmall (retrieve h k) = Unit {0}
RequestSmall (rek h k) = Unit {0}
RequestSmall (enable h c) = Small c
RequestSmall (remove h) = Unit {0}
RequestSmall (cancel h) = Unit {0}
RequestSmall (list limit q) = Unit {0}
RequestSmall (info h) = Unit {0}

fields_small : (k : Kind) (f : Bytes) → Bytes256 f → RequestSmall (fields k f)
fields_small setup_kind f b = tt
fields_small install_kind f b = count_small (kept_asked f) (word 26 (body f)) (word_small 26 (body f) (bytes_drop 4 f b))
fields_small retrieve_kind f b = tt
fields_small rek_kind f b = tt
fields_small enable_kind f b = count_small (kept_asked f) (word 10 (body f)) (word_small 10 (body f) (bytes_drop 4 f b))
fields_small remove_kind f b = tt
fields_small cancel_kind f b = tt
fields_small list_kind f b = tt
fields_small info_kind f b = tt

pub request_small : (f : Bytes) (q : Request) → Bytes256 f → Reads f q → RequestSmall q
request_small f q b r = rw r.is (fields_small r.kind f b)

-- ---- after a request
module _ (t : List Slot) (fit : CountsFit t) where
  set_small : (at : ℕ) (s : Slot) (u : List Slot) → u ≡ set t at s → ((r : Right) → slot_right s ≡ some r → Small r.count) → CountsFit u
  set_small at s u e k i r w = go (set_at t at i s w.slot (rw e at w.there))
    where
      go : (get_elem? t i ≡ some w.slot) ⊎ ((at ≡ i) × (s ≡ w.slot)) → Small r.count
      go (inl p) = fit i r (record { slot = w.slot; there = p; holds = w.holds })
      go (inr p) = k r (ap slot_right p.1 ∙ w.holds)

  lent_small : (h k : Bytes) (give : Right → Given) (g : Given) (u : List Slot) → LendsOut t h k give g u → CountsFit u
  lent_small h k give g u d =
      set_small d.turns.at (taken k (disabled d.right)) u d.turns.after
      (λ r e. fit d.turns.at r (record { slot = taken h (enabled d.right); there = found_at d.turns; holds = e }))

  pub does_small : (free : ℕ) (q : Request) → RequestSmall q → (g : Given) (u : List Slot) → Does free t q g u → CountsFit u
  does_small free (setup h n) z g u d = set_small free (taken h (reserved n)) u d.after (λ r e. absurd (not_there e))
  does_small free (install h x) z g u d =
      set_small d.turns.at (taken h (enabled x)) u d.turns.after (λ r e. rw (← some-injective x r e) z)
  does_small free (retrieve h k) z g u d = lent_small h k _ g u d
  does_small free (rek h k) z g u d = lent_small h k _ g u d
  does_small free (enable h c) z g u d = go d.did
    where
      go : ((x : Right) × Stays t h (enabled x) u) ⊎ Returns t h c u → CountsFit u
      go (inl x) = rw x.1.after fit
      go (inr x) =
          set_small x.turns.at (taken h (enabled (recount c x.right))) u x.turns.after
          (λ r e. rw (← some-injective (recount c x.right) r e) z)
  does_small free (remove h) z g u d = set_small d.turns.at empty u d.turns.after (λ r e. absurd (not_there e))
  does_small free (cancel h) z g u d = set_small d.turns.at empty u d.turns.after (λ r e. absurd (not_there e))
  does_small free (list limit q) z g u d = rw d.after fit
  does_small free (info h) z g u d = rw d.stays.after fit
