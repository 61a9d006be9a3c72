-- The two queries leave a whole, well-formed table of bytes as it is, and change no slot. Assumes nothing.
use Prim.Native.Nat.{ℕ}
use mathlib.Core.Path.{◌≡◌, refl, sym}
use mathlib.Core.List.{List}
use mathlib.Core.Bool.{true}
use Rattle.profile.specs.Bytes.{Bytes, Bytes256}
use Rattle.profile.specs.Slot.{Entry, reserved, enabled, disabled}
use Rattle.profile.specs.Table.{slots_of, whole_slots, well_table}
use Rattle.profile.specs.Request.{list, info}
use Rattle.profile.specs.Agent.{Found, absent, one, find, when_found, info_at, act, table_after}
use Rattle.profile.proofs.Tables.{table_slots}
use Rattle.tallies.specs.declared.update.Change.TheVariants.{Same}
use Rattle.tallies.specs.Changes.{change_by}
use Rattle.tallies.proofs.Changing.{none_moved}
use Rattle.decisions.specs.Serving.{answer_to}

module _ (table : Bytes) (bytes : Bytes256 table) (whole : whole_slots table ≡ true) (well : well_table table ≡ true) where
  pub list_keeps : (limit : ℕ) (q : List Bytes) → table_after table (answer_to table (list limit q)) ≡ table
  unfolding act
  list_keeps limit q = table_slots table bytes whole well

  pub info_keeps : (h : Bytes) → table_after table (answer_to table (info h)) ≡ table
  unfolding act
  info_keeps h = by_found (find h (slots_of table))
    where
      by_entry : (i : ℕ) (e : Entry) → table_after table (info_at (slots_of table) i e) ≡ table
      by_entry i (reserved n) = refl
      by_entry i (enabled r) = table_slots table bytes whole well
      by_entry i (disabled r) = refl

      by_found : (f : Found) → table_after table (when_found f (info_at (slots_of table))) ≡ table
      by_found absent = refl
      by_found (one i e) = by_entry i e

module _ (table : Bytes) where
  pub list_same : (limit : ℕ) (q : List Bytes) → Same ≡ change_by (slots_of table) (answer_to table (list limit q))
  unfolding act
  list_same limit q = sym (none_moved (slots_of table))

  pub info_same : (h : Bytes) → Same ≡ change_by (slots_of table) (answer_to table (info h))
  unfolding act
  info_same h = by_found (find h (slots_of table))
    where
      by_entry : (i : ℕ) (e : Entry) → Same ≡ change_by (slots_of table) (info_at (slots_of table) i e)
      by_entry i (reserved n) = sym (none_moved (slots_of table))
      by_entry i (enabled r) = sym (none_moved (slots_of table))
      by_entry i (disabled r) = sym (none_moved (slots_of table))

      by_found : (f : Found) → Same ≡ change_by (slots_of table) (when_found f (info_at (slots_of table)))
      by_found absent = sym (none_moved (slots_of table))
      by_found (one i e) = by_entry i e
