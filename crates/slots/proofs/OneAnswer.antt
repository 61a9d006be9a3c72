-- Contracts that speak of a place by its number, or of a test by the list that it gives: two outcomes that meet one are equal.
-- Assumes nothing.
use Prim.Native.Nat.{ℕ}
use mathlib.Core.Path.{◌≡◌, refl, sym, ap, ◌∙◌}
use mathlib.Core.List.{[], ◌∷◌}
use lib.ListN.{get_or}
use Rattle.profile.specs.Bytes.{Bytes}
use Rattle.slots.specs.declared.place.Place.{Place}
use Rattle.slots.specs.declared.place.Place.TheVariants.{Empty, Reserved, Enabled, Disabled}
use Rattle.slots.specs.declared.head.Head.{Head}
use Rattle.slots.specs.Places.{place_number}
use Rattle.slots.specs.Heads.{HeadOf}

-- `place_of`: a number is that of one place
abbrev numbered : ℕ → Place
numbered n = get_or (Empty ∷ Reserved ∷ Enabled ∷ Disabled ∷ []) n Empty

back : (p : Place) → numbered (place_number p) ≡ p
back Empty = refl
back Reserved = refl
back Enabled = refl
back Disabled = refl

pub one_place : (p q : Place) → place_number p ≡ place_number q → p ≡ q
one_place p q e = sym (back p) ∙ ap numbered e ∙ back q

-- `head_of`: a slot has one head
pub one_head : (s : Bytes) (h k : Head) → HeadOf s h → HeadOf s k → h ≡ k
one_head s h k p q =
    let places = one_place h.place k.place (p.place_is ∙ sym q.place_is) in
    let hashes = p.hashes_are ∙ sym q.hashes_are in
    let counts = p.count_is ∙ sym q.count_is in
    let lengths = p.length_is ∙ sym q.length_is in
    λ i. record { place = places i; hashes = hashes i; count = counts i; length = lengths i }
