-- One turn of a loop that asks for all or for any: the first of what is left decides, or is passed. Assumes nothing.
use mathlib.Core.Path.{◌≡◌}
use mathlib.Core.List.{List, ◌∷◌}
use mathlib.Core.Bool.{Bool, true, false}
use Rattle.profile.specs.Bytes.{all, any}

module _ {A : Type 0} (f : A → Bool) {x : A} {xs ys : List A} (e : xs ≡ x ∷ ys) where
  pub all_pass : f x ≡ true → all f xs ≡ all f ys
  all_pass p = rw (e, p)

  pub all_stop : f x ≡ false → all f xs ≡ false
  all_stop p = rw (e, p)

  pub any_pass : f x ≡ false → any f xs ≡ any f ys
  any_pass p = rw (e, p)

  pub any_stop : f x ≡ true → any f xs ≡ true
  any_stop p = rw (e, p)
