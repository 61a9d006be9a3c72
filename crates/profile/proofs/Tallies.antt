-- PROFILE 2.8 and 8.5: what holds of the tally, of one call and along a sequence of calls; and across a turning.
use Prim.Native.Nat.{ℕ, zero, suc, ◌+◌, ◌≤◌, ◌<◌}
use mathlib.Core.Path.{◌≡◌, refl, sym, ap, ◌∙◌}
use mathlib.Core.List.{List, [], ◌∷◌}
use mathlib.Core.Option.{some-injective}
use mathlib.Core.Bool.{Bool, true, false, not, true≢false, false≢true}
use native.Mathlib.Omega.{arith}
use lib.Dec.{eqb, leb, ltb}
use lib.ListN.{length, get_or, replicate}
use Rattle.profile.specs.Bytes.{Bytes, In}
use Rattle.profile.specs.Sizes.{reply_room}
use Rattle.profile.specs.Slot.{reserved, enabled, disabled, empty, taken}
use Rattle.profile.specs.Table.{place_of, handle_of, length_of, right_of, unpack, slot_bytes, slots_of, slot_count, whole_slots, well_table}
use Rattle.profile.specs.Turning.{right_before, unpack_before, turn}
use Rattle.profile.specs.Tally.{tally_with, in_slot, plus, tally_of, tally_in}
use Rattle.profile.specs.Frame.{kind_number}
use Rattle.profile.specs.Request.{Read, asks, refused, no_frame, read_request}
use Rattle.profile.specs.Agent.{first_empty_from, Call, Outcome, refuse, obey, on_bytes, agent}
use Rattle.profile.specs.Run.{blank_table, numbers_then}
use Rattle.profile.specs.Tallies.{Carries}
use Rattle.profile.proofs.Logic.{if_both, eqb_true}
use Rattle.profile.proofs.FirstEmpty.{not_there}
use Rattle.profile.proofs.Tables.{slots_table}
use Rattle.profile.proofs.TallyLaws.{tally_map, same_tally_true}
use Rattle.profile.proofs.Numbers.{agent_106, by_agent}
use Rattle.profile.proofs.Turning.{turns, turn_refuses}
use Rattle.profile.proofs.Fitting.{blank_fits}
use Rattle.profile.proofs.Sound.{zeros_table}

-- ---- one call
module _ (table : Bytes) (c : Call) where
  pub differs_106 : reply_room ≤ length c.buffer → whole_slots table ≡ true → c.start < slot_count table → well_table table ≡ true
      → (c.tally ≡ tally_in table → ⊥) → agent table c ≡ refuse 106 table c
  differs_106 = agent_106 table c

  pub tally_afresh : eqb (agent table c).number 0 ≡ true → (agent table c).tally ≡ tally_in (agent table c).table
  tally_afresh =
      by_agent table c (λ (o : Outcome). eqb o.number 0 ≡ true → o.tally ≡ tally_in o.table)
      (λ n e z. absurd (true≢false (sym z ∙ e)))
      (λ _ _ _ free _. obeyed (read_request c.request) free)
    where
      done : Read → ℕ → Outcome
      done r free = on_bytes (kind_number c.request) (obey r free (slots_of table)) table c

      obeyed : (r : Read) (free : ℕ) → eqb (done r free).number 0 ≡ true → (done r free).tally ≡ tally_in (done r free).table
      obeyed (asks q) free z = refl
      obeyed (refused r) free z = refl
      obeyed no_frame free z = absurd (false≢true z)

  pub tally_stays : (agent table c).table ≡ table → (agent table c).tally ≡ c.tally
  tally_stays =
      by_agent table c (λ (o : Outcome). o.table ≡ table → o.tally ≡ c.tally)
      (λ n e s. refl)
      (λ _ _ tally free _. obeyed tally (read_request c.request) free)
    where
      done : Read → ℕ → Outcome
      done r free = on_bytes (kind_number c.request) (obey r free (slots_of table)) table c

      obeyed : c.tally ≡ tally_in table → (r : Read) (free : ℕ) → (done r free).table ≡ table → (done r free).tally ≡ c.tally
      obeyed tally (asks q) free s = ap tally_in s ∙ sym tally
      obeyed tally (refused r) free s = sym tally
      obeyed tally no_frame free s = refl

  -- with the table's own tally a call gives another number than 106, and leaves the tally of the table that it leaves
  module _ (tally : c.tally ≡ tally_in table) where
    not_106 : eqb (agent table c).number 106 ≡ false
    unfolding agent
    not_106 =
        rw (same_tally_true c.tally (tally_in table) tally)
        (if_both No106 (ltb (length c.buffer) 4279) refl
        (if_both No106 (not (whole_slots table)) refl
        (if_both No106 (leb (slot_count table) c.start) refl
        (if_both No106 (not (well_table table)) refl
        (obeyed (read_request c.request))))))
      where
        No106 : Outcome → Type 0
        No106 o = eqb o.number 106 ≡ false

        obeyed : (r : Read) → No106 (on_bytes (kind_number c.request) (obey r (first_empty_from c.start (slots_of table)) (slots_of table)) table c)
        obeyed (asks q) = refl
        obeyed (refused r) = refl
        obeyed no_frame = refl

    then_tally : (agent table c).tally ≡ tally_in (agent table c).table
    then_tally =
        by_agent table c (λ (o : Outcome). o.tally ≡ tally_in o.table) (λ n e. tally)
        (λ _ _ _ free _. obeyed (read_request c.request) free)
      where
        done : Read → ℕ → Outcome
        done r free = on_bytes (kind_number c.request) (obey r free (slots_of table)) table c

        obeyed : (r : Read) (free : ℕ) → (done r free).tally ≡ tally_in (done r free).table
        obeyed (asks q) free = refl
        obeyed (refused r) free = refl
        obeyed no_frame free = tally

-- ---- one call after another
pub carries_on : (table : Bytes) (cs : List Call) → Carries table (tally_in table) cs → In 106 (numbers_then table cs) → ⊥
carries_on table [] k m = not_there m.1
carries_on table (c ∷ cs) k (zero, p) = true≢false (sym (eqb_true (agent table c).number 106 (some-injective _ _ p)) ∙ not_106 table c k.0)
carries_on table (c ∷ cs) k (suc i, p) = carries_on (agent table c).table cs (rw (← (then_tally table c k.0)) k.1) (i, p)

-- ---- a blank card
empty_tally : (n : ℕ) → tally_of (replicate n empty) ≡ tally_with n 0 0 0 0
unfolding tally_of
empty_tally zero = refl
empty_tally (suc n) =
    let e : 1 + n ≡ suc n = omega arith in
    ap (plus (in_slot empty)) (empty_tally n) ∙ ap (λ (m : ℕ). tally_with m 0 0 0 0) e

pub blank_tally : (n : ℕ) → tally_in (blank_table n) ≡ tally_with n 0 0 0 0
blank_tally n = rw (zeros_table n, slots_table (replicate n empty) (blank_fits n)) (empty_tally n)

pub never_106 : (n : ℕ) → 1 ≤ n → n ≤ 15 → (cs : List Call) → Carries (blank_table n) (tally_with n 0 0 0 0) cs → In 106 (numbers_then (blank_table n) cs) → ⊥
never_106 n p q cs k = carries_on (blank_table n) cs (rw (blank_tally n) k)

-- ---- a turning: places and lengths are what they were
turn_slot_lem : (s : Bytes) → in_slot (unpack_before s) ≡ in_slot (unpack s)
unfolding unpack unpack_before
turn_slot_lem s = by_place (place_of s)
  where
    by_place : (p : ℕ) → in_slot (get_or (empty ∷ taken (handle_of s) (reserved (length_of s)) ∷ taken (handle_of s) (enabled (right_before s)) ∷ []) p (taken (handle_of s) (disabled (right_before s))))
        ≡ in_slot (get_or (empty ∷ taken (handle_of s) (reserved (length_of s)) ∷ taken (handle_of s) (enabled (right_of s)) ∷ []) p (taken (handle_of s) (disabled (right_of s))))
    by_place zero = refl
    by_place (suc zero) = refl
    by_place (suc (suc zero)) = refl
    by_place (suc (suc (suc p))) = refl

pub turn_tally : (table : Bytes) → tally_in (turn table).table ≡ tally_in table
unfolding slots_of
turn_tally table = go (eqb (turn table).number 0) refl
  where
    go : (b : Bool) → eqb (turn table).number 0 ≡ b → tally_in (turn table).table ≡ tally_in table
    go true e = ap tally_of (turns table e).holds ∙ tally_map unpack_before unpack turn_slot_lem (slot_bytes table)
    go false e = ap tally_in (turn_refuses table e)
