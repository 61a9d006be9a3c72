-- An answer of the agent as it shows in the table and the reply buffer. Assumes nothing.
use Prim.Native.Nat.{ℕ, ◌*◌}
use mathlib.Core.Path.{◌≡◌, refl, sym}
use mathlib.Core.List.{List, []}
use Rattle.std.specs.Prelude.{Err}
use Rattle.profile.specs.Bytes.{Bytes, over, Bytes256}
use Rattle.profile.specs.Slot.{Slot}
use Rattle.profile.specs.Table.{slots_of, table_of}
use Rattle.profile.specs.Frame.{frame}
use Rattle.profile.specs.Agent.{Given, nothing, Answer, deny, done, given_bit, write_given, reply_frame}
use Rattle.profile.proofs.Tables.{table_slots}
use Rattle.codes.specs.declared.refusal.Refusal.{Refusal}
use Rattle.codes.specs.Codes.{refusal_meant, status_in}
use Rattle.tallies.specs.declared.update.Change.{Change}
use Rattle.tallies.specs.declared.update.Change.TheVariants.{Same}
use Rattle.tallies.specs.Changes.{change_in}
use Rattle.tallies.proofs.Changing.{none_moved}
use Rattle.decisions.specs.Serving.{Ready, Serves}

module _ {kind : ℕ} {a : Answer} {T B B' : Bytes} where
  -- PROFILE 4.2: a status other than 0 leaves the table as it was
  pub refused_serves : (r : Refusal) → a ≡ deny (refusal_meant r) → B' ≡ over (frame kind (status_in {A = Unit {0}} (Err r)) []) B → Serves kind a T B T B' Same
  unfolding reply_frame
  refused_serves r d e = rw d (record { table_is = refl; reply_is = e; change_is = sym (none_moved (slots_of T)) })

  pub done_serves : {g : Given} {u : List Slot} {T' : Bytes} → a ≡ done g u → T' ≡ table_of u → B' ≡ over (frame kind (128 * given_bit g) (write_given g)) B
      → {change : Change} → change ≡ change_in (slots_of T) u → Serves kind a T B T' B' change
  unfolding reply_frame
  done_serves d t e c = rw d (record { table_is = t; reply_is = e; change_is = c })

  -- done with nothing changed
  pub kept_serves : Bytes256 T → Ready T B → a ≡ done nothing (slots_of T) → B' ≡ over (frame kind 0 []) B → Serves kind a T B T B' Same
  kept_serves bytes r d e = done_serves d (sym (table_slots T bytes r.whole r.well)) e (sym (none_moved (slots_of T)))
