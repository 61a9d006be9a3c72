-- The field tests of kind 2: what each branch of `install_fields` answers, by what it knows of the hash byte and of the body's length. Assumes nothing.
use Prim.Native.Nat.{ℕ, ◌+◌, ◌-◌, ◌*◌, ◌/◌, ◌%◌, ◌≤◌, ◌<◌}
use mathlib.Core.Path.{◌≡◌}
use mathlib.Core.Bool.{true, false, ◌&&◌}
use native.Mathlib.Omega.{arith}
use lib.Dec.{leb}
use borrow.Author.Tests.{eq-eqb, ne_eqb, lt-ltb, le-ltb, le-leb, lt-leb}
use Rattle.profile.specs.Bytes.{Bytes, byte}
use Rattle.profile.specs.Sizes.{most_payload, hash_size, most_hashes}
use Rattle.std.specs.Prelude.{Result, Err}
use Rattle.request_reader.specs.declared.asked.Why.{Why}
use Rattle.request_reader.specs.declared.asked.Why.TheVariants.{Parameter}
use Rattle.request_reader.specs.declared.asked.Asked.{Asked}
use Rattle.request_reader.specs.Asking.{of_right, of_install}

-- h and r are the two halves of the hash byte
module _ (n : ℕ) (f : Bytes) {h : ℕ} {a : Result Asked Why} (e : h ≡ byte 32 f / 16) where
  pub hashes_out : (leb 1 h && leb h most_hashes) ≡ false → a ≡ Err Parameter → a ≡ of_install n f
  unfolding of_install
  hashes_out out z = rw (← e, out) z

  module _ {r : ℕ} (within : (leb 1 h && leb h most_hashes) ≡ true) (g : r ≡ byte 32 f % 16) where
    pub zero_bit_set : (r ≡ 0 → ⊥) → a ≡ Err Parameter → a ≡ of_install n f
    unfolding of_install
    zero_bit_set set z = rw (← e, within, ← g, ne_eqb r 0 set) z

    module _ (clear : r ≡ 0) where
      pub no_payload : n ≤ 29 + hash_size * h → a ≡ Err Parameter → a ≡ of_install n f
      unfolding of_install
      no_payload short z = rw (← e, within, ← g, eq-eqb r 0 clear, le-ltb 0 (n - (29 + hash_size * h)) (omega arith)) z

      module _ (some : 29 + hash_size * h < n) where
        pub long_payload : most_payload < n - (29 + hash_size * h) → a ≡ Err Parameter → a ≡ of_install n f
        unfolding of_install
        long_payload long z =
            rw (← e, within, ← g, eq-eqb r 0 clear, lt-ltb 0 (n - (29 + hash_size * h)) (omega arith), lt-leb (n - (29 + hash_size * h)) most_payload long) z

        pub installs : n - (29 + hash_size * h) ≤ most_payload → a ≡ of_right f h (n - (29 + hash_size * h)) → a ≡ of_install n f
        unfolding of_install
        installs fits z =
            rw (← e, within, ← g, eq-eqb r 0 clear, lt-ltb 0 (n - (29 + hash_size * h)) (omega arith), le-leb (n - (29 + hash_size * h)) most_payload fits) z
