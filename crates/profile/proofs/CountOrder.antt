-- PROFILE 5.5 and 8.3: when a count raises another, and that no higher counts are an order.
use mathlib.Core.Path.{◌≡◌, refl}
use mathlib.Core.Logic.{◌↔◌}
use mathlib.Core.Bool.{Bool, true, false, true≢false}
use native.Mathlib.Omega.{arith}
use Rattle.profile.specs.Slot.{Count, None, Some, raises}
use Rattle.profile.specs.Rising.{NoHigher}
use Rattle.profile.proofs.Logic.{ltb_over, ltb_false}

pub raise_means : (earlier later : Count) → (raises earlier later ≡ false) ↔ NoHigher earlier later
raise_means None None = (λ e. tt, λ n. refl)
raise_means None (Some b) = (λ e. absurd (true≢false e), λ n. absurd n)
raise_means (Some a) None = (λ e. absurd (true≢false e), λ n. absurd n)
raise_means (Some a) (Some b) = (ltb_over a b, ltb_false a b)

pub no_higher_same : (c : Count) → NoHigher c c
no_higher_same None = tt
no_higher_same (Some a) = omega arith

pub no_higher_then : (a b c : Count) → NoHigher a b → NoHigher b c → NoHigher a c
no_higher_then None None c p q = q
no_higher_then None (Some b) c p q = absurd p
no_higher_then (Some a) None c p q = absurd p
no_higher_then (Some a) (Some b) None p q = absurd q
no_higher_then (Some a) (Some b) (Some c) p q = omega (arith, p, q)

pub raised_not : (a b : Count) → (NoHigher a b → ⊥) → raises a b ≡ true
raised_not a b n = go (raises a b) refl
  where
    go : (x : Bool) → raises a b ≡ x → raises a b ≡ true
    go true e = e
    go false e = absurd (n ((raise_means a b).0 e))
