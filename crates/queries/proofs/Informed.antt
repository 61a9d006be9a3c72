-- Kind 9: the agent's reply, by what was decided. Assumes nothing.
use Prim.Native.Nat.{ℕ, ◌*◌}
use mathlib.Core.Path.{◌≡◌, refl}
use mathlib.Core.List.{[]}
use mathlib.Core.Bool.{true≢false}
use Rattle.std.specs.Prelude.{Err}
use Rattle.profile.specs.Bytes.{Bytes, part, over}
use Rattle.profile.specs.Sizes.{slot_size}
use Rattle.profile.specs.Slot.{Entry}
use Rattle.profile.specs.Table.{right_of, slots_of, table_of}
use Rattle.profile.specs.Frame.{code, frame}
use Rattle.profile.specs.Request.{info}
use Rattle.profile.specs.Agent.{Answer, find, info_at, act, given_bit, write_given}
use Rattle.reply_writer.specs.Written.{info_of}
use Rattle.slots.specs.declared.place.Place.TheVariants.{Enabled}
use Rattle.tables.specs.LookUp.{found_at}
use Rattle.tallies.specs.declared.update.Change.TheVariants.{Same}
use Rattle.tallies.specs.Changes.{change_in}
use Rattle.codes.specs.declared.refusal.Refusal.{Refusal}
use Rattle.codes.specs.Codes.{refusal_meant}
use Rattle.decisions.specs.Decisions.{lendable, decided}
use Rattle.decisions.specs.Serving.{Serves, answer_to}
use Rattle.decisions.proofs.Answers.{refused_serves, done_serves}
use Rattle.decisions.proofs.Deciding.{Expects, expects, refuses, Held}
use Rattle.queries.specs.Query.{reply_to}

module _ (t b h : Bytes) where
  abbrev told : ℕ → Entry → Answer
  told = info_at (slots_of t)

  pub info_refused : (y : Refusal) → decided lendable (found_at (find h (slots_of t))) ≡ Err y
      → (r : Bytes) → r ≡ over (frame 9 (code (refusal_meant y)) []) b → r ≡ reply_to 9 (info h) t b
  unfolding act
  info_refused y d r x =
      let expected : Expects lendable told = expects lendable told (λ _ i n. refl) (λ q. absurd (true≢false q)) (λ _ i r. refl) in
      let s : Serves 9 (answer_to t (info h)) t b t r Same = refused_serves y (refuses h (slots_of t) lendable told expected y d) x in
      s.reply_is

  pub info_done : (i : ℕ) → Held t h i Enabled → (s : Bytes) → s ≡ part (slot_size * i) slot_size t
      → (r : Bytes) → r ≡ over (frame 9 (128 * given_bit (info_of (right_of s))) (write_given (info_of (right_of s)))) b → r ≡ reply_to 9 (info h) t b
  unfolding act
  info_done i w s es r x =
      let d : Serves 9 (answer_to t (info h)) t b (table_of (slots_of t)) r (change_in (slots_of t) (slots_of t)) = done_serves {g = info_of (right_of s)} (rw (w.found, ← w.lent, ← es)) refl x refl in
      d.reply_is
