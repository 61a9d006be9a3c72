-- The list of kind 8 as it grows in the reply, from slot to slot. Assumes nothing.
use Prim.Native.Nat.{ℕ, ◌+◌, ◌*◌, ◌≤◌, ◌<◌}
use mathlib.Core.Path.{◌≡◌, refl, sym, ap, ◌∙◌}
use mathlib.Core.List.{List, [], ◌∷◌, ◌++◌, append-nil}
use mathlib.Core.Bool.{true, false}
use native.Mathlib.Omega.{arith}
use lib.Dec.{ltb}
use lib.ListN.{length, get_or, take, length-append}
use lib.Seq.{take-nil, take_all, take-append-le}
use borrow.Author.Tests.{ltb-true, ltb-false}
use Rattle.std.specs.Prelude.{if◌then◌else◌}
use Rattle.profile.specs.Bytes.{Bytes, part, Each}
use Rattle.profile.specs.Sizes.{slot_size, handle_size, most_hashes, handle_at}
use Rattle.profile.specs.Table.{hash_count_of, handle_of, unpack, slot_count, slot_bytes, slots_of}
use Rattle.profile.specs.Agent.{listed_slot, listed}
use Rattle.profile.proofs.Logic.{if_cases}
use Rattle.profile.proofs.Strings.{length_part}
use Rattle.profile.proofs.WellFormed.{few_slots}
use Rattle.buffers.specs.Over.{over_at}
use Rattle.list_replies.specs.Listed.{holding}
use Rattle.list_replies.proofs.Growing.{hold_none, hold_more}
use Rattle.tables.proofs.SlotParts.{length_slots, get_d_slots}
use Rattle.slots.proofs.WellSlots.{few_hashes}
use Rattle.tables.proofs.WellTables.{slot_well}
use Rattle.decisions.specs.Serving.{Ready}
use Rattle.queries.proofs.ListedSlots.{listed_next, listed_whole, each_passed}

-- ---- a slot of a well-formed table
pub few_in_slot : (t b : Bytes) → Ready t b → (i : ℕ) → i < slot_count t → (s : Bytes) → s ≡ part (slot_size * i) slot_size t → hash_count_of s ≤ most_hashes
few_in_slot t b ready i h s e = few_hashes s (rw e (slot_well t i ready.well h))

-- slot i of those that are lent of the table at once
pub lent_part : (t : Bytes) (ss : List Bytes) → (ss ≡ slot_bytes t) × (length ss ≡ slot_count t) → (i : ℕ) → i < length ss
    → (i < slot_count t) × (get_or ss i [] ≡ part (slot_size * i) slot_size t)
lent_part t ss lent i h =
    let below : i < slot_count t = omega (arith, lent.1, h) in
    (below, rw lent.0 (get_d_slots t i below))

-- ---- one handle more, where `most` fit
pub hold_next : (hs : List Bytes) (k : ℕ) (h b : Bytes) (most : ℕ) → Each handle_size hs → length hs ≡ k → length h ≡ handle_size → 15 + handle_size * k ≤ length b
    → (if ltb k most then over_at (5 + handle_size * k) h (holding (take most hs) b) else holding (take most hs) b) ≡ holding (take most (hs ++ (h ∷ []))) b
hold_next hs k h b most each count size fits = if_cases (λ (d : Bytes). d ≡ holding (take most (hs ++ (h ∷ []))) b) (ltb k most) put left
  where
    put : ltb k most ≡ true → over_at (5 + handle_size * k) h (holding (take most hs) b) ≡ holding (take most (hs ++ (h ∷ []))) b
    put p =
        let below : k < most = ltb-true k most p in
        let longer : length (hs ++ (h ∷ [])) ≤ most = omega (arith, length-append hs (h ∷ [])) in
        rw (take_all most hs (omega arith), take_all most (hs ++ (h ∷ [])) longer) (hold_more hs k b each count (omega arith) h size fits refl refl)

    left : ltb k most ≡ false → holding (take most hs) b ≡ holding (take most (hs ++ (h ∷ []))) b
    left p = ap (λ (l : List Bytes). holding l b) (sym (take-append-le most hs (h ∷ []) (omega (arith, ltb-false k most p))))

-- ---- what holds when i slots are passed
-- the list has `found` handles so far, and the buffer d, which was b, the first of them
pub record Passed (t b : Bytes) (q : List Bytes) (most i found : ℕ) (d : Bytes) : Type 0 where
  pub few : found ≤ i
  pub sized : length d ≡ length b
  pub counted : found ≡ length (listed q (take i (slots_of t)))
  pub held : d ≡ holding (take most (listed q (take i (slots_of t)))) b

module _ (t b : Bytes) (q : List Bytes) (most : ℕ) where
  pub passed_none : Passed t b q most 0 0 b
  passed_none = record { few = omega arith; sized = refl; counted = refl; held = sym (rw (take-nil {A = Bytes} most) (hold_none b)) }

  pub passed_all : (i found : ℕ) (d : Bytes) → slot_count t ≤ i → Passed t b q most i found d
      → (found ≡ length (listed q (slots_of t))) × (d ≡ holding (take most (listed q (slots_of t))) b)
  passed_all i found d h p = rw (← listed_whole t q i h) (p.counted, p.held)

  module _ (ready : Ready t b) (i found : ℕ) (d : Bytes) (h : i < slot_count t) (p : Passed t b q most i found d) where
    pub room_next : 15 + handle_size * found ≤ length d
    room_next = omega (arith, few_slots t ready.whole ready.well, length_slots t, p.few, p.sized, ready.room)

    module _ (s : Bytes) (e : s ≡ part (slot_size * i) slot_size t) where
      -- a slot that the list passes over
      pub pass_other : listed_slot q (unpack s) ≡ [] → Passed t b q most (i + 1) found d
      pass_other none =
          let same_list : listed q (take (i + 1) (slots_of t)) ≡ listed q (take i (slots_of t)) = listed_next t q i h s e ∙ rw none (append-nil (listed q (take i (slots_of t)))) in
          record { few = omega (arith, p.few); sized = p.sized; counted = rw same_list p.counted; held = rw same_list p.held }

      -- a slot whose handle is in the list
      pub pass_listed : length s ≡ slot_size → listed_slot q (unpack s) ≡ handle_of s ∷ []
          → (d' : Bytes) → length d' ≡ length d → d' ≡ (if ltb found most then over_at (5 + handle_size * found) (handle_of s) d else d)
          → Passed t b q most (i + 1) (found + 1) d'
      pass_listed len-s one d' len-d put =
          let hs : List Bytes = listed q (take i (slots_of t)) in
          let next : listed q (take (i + 1) (slots_of t)) ≡ hs ++ (handle_of s ∷ []) = listed_next t q i h s e ∙ rw one in
          let each : Each handle_size hs = each_passed t q ready.whole ready.well i in
          let size : length (handle_of s) ≡ handle_size = length_part handle_at handle_size s (omega arith) in
          record {
            few = omega (arith, p.few);
            sized = len-d ∙ p.sized;
            counted = rw next (omega (arith, p.counted, length-append hs (handle_of s ∷ [])));
            held =
                rw (next, ← hold_next hs found (handle_of s) b most each (sym p.counted) size (rw p.sized at room_next), ← p.held) put;
          }
