-- The number of the tests before the frame: one law for each. Assumes nothing.
use Prim.Native.Nat.{ℕ, ◌<◌, ◌≤◌}
use mathlib.Core.Path.{◌≡◌, refl}
use mathlib.Core.Bool.{true, false}
use borrow.Author.Tests.{lt-ltb}
use lib.ListN.{length}
use Rattle.profile.specs.Bytes.{Bytes}
use Rattle.profile.specs.Table.{slot_count, whole_slots, well_table}
use Rattle.profile.specs.Tally.{Tally, tally_in, same_tally}
use Rattle.profile.proofs.Logic.{ltb_false, leb_true, leb_false}
use Rattle.admission.specs.Tests.{tests_of}

module _ (table : Bytes) (tally : Tally) (start : ℕ) (buffer : Bytes) where
  pub tests_101 : length buffer < 4279 → 101 ≡ tests_of table tally start buffer
  unfolding tests_of
  tests_101 h = rw (lt-ltb (length buffer) 4279 h) refl

  module _ (long : 4279 ≤ length buffer) where
    pub tests_102 : whole_slots table ≡ false → 102 ≡ tests_of table tally start buffer
    unfolding tests_of
    tests_102 e = rw (ltb_false (length buffer) 4279 long, e) refl

    module _ (whole : whole_slots table ≡ true) where
      pub tests_105 : slot_count table ≤ start → 105 ≡ tests_of table tally start buffer
      unfolding tests_of
      tests_105 h = rw (ltb_false (length buffer) 4279 long, whole, leb_true (slot_count table) start h) refl

      module _ (inside : start < slot_count table) where
        pub tests_103 : well_table table ≡ false → 103 ≡ tests_of table tally start buffer
        unfolding tests_of
        tests_103 e = rw (ltb_false (length buffer) 4279 long, whole, leb_false (slot_count table) start inside, e) refl

        module _ (well : well_table table ≡ true) where
          pub tests_106 : same_tally tally (tally_in table) ≡ false → 106 ≡ tests_of table tally start buffer
          unfolding tests_of
          tests_106 e = rw (ltb_false (length buffer) 4279 long, whole, leb_false (slot_count table) start inside, well, e) refl

          pub tests_0 : same_tally tally (tally_in table) ≡ true → 0 ≡ tests_of table tally start buffer
          unfolding tests_of
          tests_0 e = rw (ltb_false (length buffer) 4279 long, whole, leb_false (slot_count table) start inside, well, e) refl
