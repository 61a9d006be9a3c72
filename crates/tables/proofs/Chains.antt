-- What a chain over some slots gives, in the profile's words. Assumes nothing.
use Prim.Native.Nat.{ℕ, ◌+◌}
use mathlib.Core.Path.{◌≡◌, refl, sym, ap, ap₂}
use mathlib.Core.List.{List, [], ◌∷◌, map}
use mathlib.Core.Bool.{Bool, not, ◌&&◌, ◌||◌}
use lib.ListN.{length-map}
use Rattle.std.specs.Prelude.{Option, cond, Some, None, ltb}
use Rattle.std.specs.List.{list_any, list_all, prefix_len, position}
use Rattle.profile.specs.Bytes.{all, any}

pub all_is : {A : Type 0} (f : A → Bool) (xs : List A) → list_all f xs ≡ all f xs
all_is f [] = refl
all_is f (x ∷ xs) = ap (λ (b : Bool). f x && b) (all_is f xs)

pub any_map : {A B : Type 0} (f : B → Bool) (g : A → B) (xs : List A) → list_any (λ (x : A). f (g x)) xs ≡ any f (map g xs)
any_map f g [] = refl
any_map f g (x ∷ xs) = ap (λ (b : Bool). f (g x) || b) (any_map f g xs)

prefix_map : {A B : Type 0} (f : B → Bool) (g : A → B) (xs : List A) → prefix_len (λ (x : A). f (g x)) xs ≡ prefix_len f (map g xs)
prefix_map f g [] = refl
prefix_map f g (x ∷ xs) = ap (λ (n : ℕ). cond (f (g x)) (1 + n) 0) (prefix_map f g xs)

pub position_map : {A B : Type 0} (f : B → Bool) (g : A → B) (xs : List A) → position (λ (x : A). f (g x)) xs ≡ position f (map g xs)
position_map f g xs =
    ap₂ {C = Option ℕ} (λ (n m : ℕ). cond (ltb n m) (Some n) None)
    (prefix_map (λ y. not (f y)) g xs)
    (sym (length-map xs g))
