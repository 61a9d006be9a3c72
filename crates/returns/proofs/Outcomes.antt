-- The agent's answer to kind 5, outcome by outcome. Assumes nothing.
use Prim.Native.Nat.{ℕ}
use mathlib.Core.Path.{◌≡◌, refl, sym, ap, ◌∙◌, subst}
use mathlib.Core.List.{[], ◌∷◌}
use mathlib.Core.Logic.{⊎_elim}
use mathlib.Core.Bool.{true, false, true≢false, false≢true}
use native.Mathlib.Omega.{arith}
use types.Run.{OneOf}
use denote.Enum.Declared.{tag_of}
use lib.ListN.{set}
use Rattle.std.specs.Prelude.{Result, Ok, Err}
use Rattle.profile.specs.Bytes.{Bytes, over, Bytes256}
use Rattle.profile.specs.Slot.{Count, raises, recount, Entry, enabled, taken}
use Rattle.profile.specs.Table.{handle_of, count_of, right_of, slots_of}
use Rattle.profile.specs.Frame.{count_raised, code, frame}
use Rattle.codes.specs.declared.refusal.Refusal.{Refusal}
use Rattle.codes.specs.declared.refusal.Refusal.TheVariants.{CountRaised}
use Rattle.codes.specs.Codes.{refusal_meant}
use Rattle.tables.specs.declared.lookup.Record.{Record}
use Rattle.profile.specs.Request.{enable}
use Rattle.profile.specs.Agent.{Answer, deny, nothing, done, find, enable_at, act}
use Rattle.slots.specs.declared.place.Place.{Place}
use Rattle.slots.specs.declared.place.Place.TheVariants.{Empty, Reserved, Enabled, Disabled}
use Rattle.slots.specs.contracts.place.Place.{the_type}
use Rattle.tables.specs.LookUp.{found_at}
use Rattle.tallies.specs.declared.update.Change.{Change}
use Rattle.tallies.specs.declared.update.Change.TheVariants.{Same}
use Rattle.changes.specs.Change.{slot_at}
use Rattle.decisions.specs.Decisions.{installed, decided, unless}
use Rattle.decisions.specs.Serving.{Ready, Serves, answer_to}
use Rattle.decisions.proofs.Answers.{refused_serves}
use Rattle.decisions.proofs.Deciding.{expects, refuses, unless_refused, unless_decided, chosen, Held}
use Rattle.returns.specs.Returning.{raised}

-- ---- 5, refused: the reply has the status, and nothing is changed
pub refuse_serves : {a : Answer} {T B B' : Bytes} {c : Change} (y : Refusal) → a ≡ deny (refusal_meant y) → (B' ≡ over (frame 5 (code (refusal_meant y)) []) B) × (c ≡ Same) → Serves 5 a T B T B' c
refuse_serves y d e = rw e.1 (refused_serves y d e.0)

-- ---- 5, on a record that is installed
-- an else after `let Place::Disabled`
pub not_disabled : (p : Place) → OneOf (0 ∷ 1 ∷ 2 ∷ []) (tag_of the_type p) → p ≡ Disabled → ⊥
not_disabled p others q = ⊎_elim (λ e. omega arith) (⊎_elim (λ e. omega arith) (λ e. omega arith)) (rw q at others)

module _ (T B h : Bytes) (bytes : Bytes256 T) (r : Ready T B) (c : Count) where
  abbrev before : Result Record Refusal
  before = decided installed (found_at (find h (slots_of T)))

  -- one that is lent is refused where its count would rise
  denied : (i : ℕ) (o : Place) → Held T h i o → raised T c (record { at = i; place = o }) ≡ true → answer_to T (enable h c) ≡ deny count_raised
  unfolding act
  denied i Empty w up = absurd (false≢true up)
  denied i Reserved w up = absurd (false≢true up)
  denied i Enabled w up = absurd (false≢true up)
  denied i Disabled w up = rw (w.found, up)

  module _ (m : Result Record Refusal) (e : m ≡ unless (raised T c) CountRaised before) where
    pub enable_refused : (y : Refusal) → m ≡ Err y → answer_to T (enable h c) ≡ deny (refusal_meant y)
    unfolding act
    enable_refused y q =
        unless_refused (raised T c) CountRaised before y (sym e ∙ q)
        (refuses h (slots_of T) installed at (expects installed at (λ _ i n. refl) (λ q. absurd (true≢false q)) (λ q. absurd (true≢false q))) y)
        (λ o d up nine. rw (← nine) (denied o.at o.place (chosen T B h bytes r o installed d).0 up))
      where
        at : ℕ → Entry → Answer
        at = enable_at (slots_of T) h c

    module _ (o : Record) (q : m ≡ Ok o) where
      kept : (raised T c o ≡ false) × (before ≡ Ok o)
      kept = unless_decided (raised T c) CountRaised before o (sym e ∙ q)

      pub installed_there : Held T h o.at o.place × (installed o.place ≡ true)
      installed_there = chosen T B h bytes r o installed kept.1

      -- an enabled record stays as it is
      pub stays : (o.place ≡ Disabled → ⊥) → answer_to T (enable h c) ≡ done nothing (slots_of T)
      unfolding act
      stays = go o.place installed_there
        where
          go : (p : Place) → Held T h o.at p × (installed p ≡ true) → (p ≡ Disabled → ⊥) → answer_to T (enable h c) ≡ done nothing (slots_of T)
          go Empty s n = absurd (false≢true s.1)
          go Reserved s n = absurd (false≢true s.1)
          go Enabled s n = rw s.0.found
          go Disabled s n = absurd (n refl)

      -- one that is lent is enabled with the count sent
      module _ (is : o.place ≡ Disabled) where
        pub lent_there : Held T h o.at Disabled
        lent_there = subst (λ (p : Place). Held T h o.at p) is installed_there.0

        pub returned : answer_to T (enable h c) ≡ done nothing (set (slots_of T) o.at (taken (handle_of (slot_at T o.at)) (enabled (recount c (right_of (slot_at T o.at))))))
        unfolding act
        returned =
            let low : raises (count_of (slot_at T o.at)) c ≡ false = rw is at kept.0 in
            rw (lent_there.found, low)
            (ap (λ (k : Bytes). done nothing (set (slots_of T) o.at (taken k (enabled (recount c (right_of (slot_at T o.at))))))) (sym lent_there.handle_is))
