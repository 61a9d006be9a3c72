-- The agent's answer to kinds 3 and 4, outcome by outcome. Assumes nothing.
use Prim.Native.Nat.{ℕ}
use mathlib.Core.Path.{◌≡◌, refl, sym, ◌∙◌}
use mathlib.Core.Bool.{false, true≢false}
use lib.ListN.{set}
use Rattle.std.specs.Prelude.{Result, Ok, Err}
use Rattle.profile.specs.Bytes.{Bytes, Bytes256}
use Rattle.profile.specs.Slot.{Right, Entry, disabled, taken, in_use}
use Rattle.profile.specs.Table.{right_of, slots_of}
use Rattle.codes.specs.declared.refusal.Refusal.{Refusal}
use Rattle.codes.specs.declared.refusal.Refusal.TheVariants.{DuplicateHandle}
use Rattle.codes.specs.Codes.{refusal_meant}
use Rattle.profile.specs.Agent.{Given, Answer, deny, done, find, when_found, lend_at}
use Rattle.tables.specs.declared.lookup.Record.{Record}
use Rattle.slots.specs.declared.place.Place.TheVariants.{Enabled}
use Rattle.tables.specs.LookUp.{found_at}
use Rattle.changes.specs.Change.{slot_at}
use Rattle.decisions.specs.Decisions.{lendable, decided, unless_used}
use Rattle.decisions.specs.Serving.{Ready}
use Rattle.decisions.proofs.Deciding.{expects, refuses, Held, chosen_enabled, unless_refused, unless_decided}

-- ---- 3 and 4, by what is decided of the record, whatever they give
module _ (T B h k : Bytes) (bytes : Bytes256 T) (r : Ready T B) where
  abbrev before : Result Record Refusal
  before = decided lendable (found_at (find h (slots_of T)))

  module _ (m : Result Record Refusal) (e : m ≡ unless_used (in_use k (slots_of T)) before) where
    pub lend_refused : (give : Right → Given) (y : Refusal) → m ≡ Err y → when_found (find h (slots_of T)) (lend_at (slots_of T) k give) ≡ deny (refusal_meant y)
    lend_refused give y q =
        unless_refused (λ x. in_use k (slots_of T)) DuplicateHandle before y (sym e ∙ q)
        (refuses h (slots_of T) lendable at (expects lendable at (λ _ i n. refl) (λ q. absurd (true≢false q)) (λ _ i r. refl)) y)
        (λ o d used five. rw (← five, (chosen_enabled T B h bytes r o d).found, used) refl)
      where
        at : ℕ → Entry → Answer
        at = lend_at (slots_of T) k give

    module _ (o : Record) (q : m ≡ Ok o) where
      free : (in_use k (slots_of T) ≡ false) × (before ≡ Ok o)
      free = unless_decided (λ x. in_use k (slots_of T)) DuplicateHandle before o (sym e ∙ q)

      pub to_lend : Held T h o.at Enabled
      to_lend = chosen_enabled T B h bytes r o free.1

      pub lends : (give : Right → Given) → when_found (find h (slots_of T)) (lend_at (slots_of T) k give) ≡ done (give (right_of (slot_at T o.at))) (set (slots_of T) o.at (taken k (disabled (right_of (slot_at T o.at)))))
      lends give = rw (to_lend.found, free.0)
