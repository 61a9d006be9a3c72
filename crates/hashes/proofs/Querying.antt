-- The hashes of a record against those of a query. Assumes nothing.
use Prim.Native.Nat.{ℕ, zero, suc, ◌+◌, ◌≤◌}
use mathlib.Core.Path.{◌≡◌, refl, sym, ap, ◌∙◌}
use mathlib.Core.List.{List, [], ◌∷◌}
use mathlib.Core.Bool.{Bool, false, ◌||◌}
use native.Mathlib.Omega.{arith}
use lib.ListN.{length, drop, length-drop, drop_of_length-le}
use Rattle.std.specs.Prelude.{if◌then◌else◌}
use Rattle.std.specs.List.{list_any, range_with_len}
use Rattle.profile.specs.Bytes.{Bytes, part, pieces, same, any}
use Rattle.profile.specs.Table.{place_of, hash_count_of, right_of, unpack}
use Rattle.profile.specs.Agent.{listed_slot}
use Rattle.profile.proofs.Strings.{length_pieces}
use Rattle.octets.proofs.Parts.{part_all}
use Rattle.hashes.specs.Readers.{hash_at}
use Rattle.slots.specs.declared.place.Place.{Place}
use Rattle.slots.specs.declared.place.Place.TheVariants.{Empty, Reserved, Enabled, Disabled}
use Rattle.slots.specs.Places.{place_number}
use Rattle.slots.proofs.Pieces.{pieces_step, pieces_within}
use Rattle.slots.proofs.Unpacking.{unpack_empty, unpack_reserved, unpack_enabled, unpack_disabled}

-- what a chain over some hashes gives, in the profile's words
pub any_is : {A : Type 0} (f : A → Bool) (xs : List A) → list_any f xs ≡ any f xs
any_is f [] = refl
any_is f (x ∷ xs) = ap (λ (b : Bool). f x || b) (any_is f xs)

-- ---- n hashes in some hash bytes, one after another
-- x is one of them
abbrev pub has : Bytes → ℕ → Bytes → Bool
has bytes n x = any (same x) (pieces 20 n bytes)

-- x is hash i
abbrev pub stands_at : Bytes → Bytes → ℕ → Bool
stands_at bytes x i = same x (hash_at i bytes)

-- it is one of those from hash i on
any_on : (bytes x : Bytes) (n k i : ℕ) → i + k ≡ n → list_any (stands_at bytes x) (range_with_len i k) ≡ any (same x) (drop i (pieces 20 n bytes))
unfolding hash_at
any_on bytes x n zero i e = rw (drop_of_length-le (pieces 20 n bytes) {i = i} (rw (length_pieces 20 n bytes) (omega (arith, e))))
any_on bytes x n (suc k) i e =
    ap (λ (b : Bool). stands_at bytes x i || b) (any_on bytes x n k (i + 1) (omega (arith, e)))
    ∙ rw (pieces_step 20 n i bytes (omega (arith, e)))

pub any_from : (bytes x : Bytes) (n : ℕ) → list_any (stands_at bytes x) (range_with_len 0 n) ≡ has bytes n x
any_from bytes x n = any_on bytes x n n 0 (omega arith)

-- what is found of a hash that was read, all of it compared, is so of the one that stands there
pub hash_compared : (x hash : Bytes) (r : Bool) {there : Bytes} → length x ≡ 20 → length hash ≡ 20 → hash ≡ there
    → r ≡ same x (part 0 (length x) hash) → r ≡ same x there
hash_compared x hash r l k e f = rw (l, ← k, part_all hash, e) at f

-- one of a query's hashes is one of these
abbrev some : List Bytes → List Bytes → Bool
some q hashes = any (λ (x : Bytes). any (same x) hashes) q

none : (q : List Bytes) → some q [] ≡ false
none [] = refl
none (x ∷ q) = none q

-- ---- the hashes of a slot, which stand in its bytes 31 to 190
module _ (s : Bytes) (q : List Bytes) (n : ℕ) (e : n ≡ hash_count_of s) where
  pub record_none : n ≡ 0 → false ≡ some q (right_of s).hashes
  record_none z = sym (ap (some q) (ap (λ (m : ℕ). pieces 20 m (drop 31 s)) (sym e ∙ z)) ∙ none q)

  pub record_some : (r : Bool) → length s ≡ 4288 → hash_count_of s ≤ 8 → r ≡ some q (pieces 20 n (part 31 160 s)) → r ≡ some q (right_of s).hashes
  record_some r l h f = f ∙ ap (some q) (ap (λ (m : ℕ). pieces 20 m (part 31 160 s)) e ∙ pieces_within 20 (hash_count_of s) 160 (drop 31 s) (omega arith) (rw (length-drop 31 s) (omega arith)))

-- ---- listed or not, by the slot's place
module _ (s : Bytes) (p : Place) (at : place_number p ≡ place_of s) where
  pub not_listed : (q : List Bytes) → (p ≡ Enabled → ⊥) → listed_slot q (unpack s) ≡ []
  not_listed q other = go p at other
    where
      go : (p : Place) → place_number p ≡ place_of s → (p ≡ Enabled → ⊥) → listed_slot q (unpack s) ≡ []
      go Empty at other = rw (unpack_empty s (sym at))
      go Reserved at other = rw (unpack_reserved s (sym at))
      go Enabled at other = absurd (other refl)
      go Disabled at other = rw (unpack_disabled s 0 (sym at))

  module _ (is : p ≡ Enabled) where
    enabled : place_of s ≡ 2
    enabled = sym at ∙ ap place_number is

    pub listed_all : (q : List Bytes) → length q ≡ 0 → listed_slot q (unpack s) ≡ part 1 10 s ∷ []
    listed_all [] e = rw (unpack_enabled s enabled)
    listed_all (x ∷ q) e = absurd (omega (arith, e))

    pub listed_some : (q : List Bytes) (r : Bool) → (length q ≡ 0 → ⊥) → r ≡ any (λ x. any (same x) (right_of s).hashes) q
        → listed_slot q (unpack s) ≡ (if r then part 1 10 s ∷ [] else [])
    listed_some [] r some e = absurd (some refl)
    listed_some (x ∷ q) r some e = rw (unpack_enabled s enabled, e)
