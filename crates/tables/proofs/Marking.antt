-- Marks of handles: each loop's turn, and that a handle whose mark stands once among all marks stands once. Assumes nothing.
use Prim.Native.Nat.{ℕ, zero, suc, ◌+◌, ◌≤◌, ◌<◌}
use mathlib.Core.Path.{◌≡◌, refl, sym, ap, ◌∙◌}
use mathlib.Core.List.{List, [], ◌∷◌, ◌++◌, map, map-append}
use mathlib.Core.Bool.{Bool, true, false, true≢false}
use native.Mathlib.Omega.{arith}
use native.Mathlib.Numerals.{add-one}
use native.Mathlib.Nat.{zero-add}
use lib.Bits.{bit_xor}
use lib.Dec.{eqb, leb}
use lib.ListN.{drop_of_length-le, length, get_or, take, drop, set, replicate, length-map, get_or-map, take-append-drop}
use lib.Seq.{drop-cons, take_all, take-suc, take-suc-set, get_or-take, get_or-drop}
use borrow.Author.Tests.{eq-eqb, ne_eqb, leb-true, leb-false}
use Rattle.std.specs.Prelude.{if◌then◌else◌}
use Rattle.profile.specs.Bytes.{Bytes, part}
use Rattle.profile.specs.Slot.{in_use, named}
use Rattle.profile.specs.Table.{place_of, unpack}
use Rattle.profile.proofs.Logic.{split, eqb_eq}
use Rattle.slots.proofs.Unpacking.{named_empty, named_taken}
use Rattle.tables.specs.Again.{again}
use Rattle.tables.specs.Marks.{mark_of, mark_in, times_of, Marked}
use Rattle.tables.proofs.Turns.{slots_on, again_taken}

-- ---- the mark of a slot, from its bytes
pub mark_read : (s : Bytes) → bit_xor (get_or s 9 0) (get_or s 10 0) ≡ mark_in s
unfolding mark_in mark_of
mark_read s =
    rw (get_or-take 10 (drop 1 s) 8 0 (omega arith), get_or-take 10 (drop 1 s) 9 0 (omega arith), get_or-drop 1 s 8 0, get_or-drop 1 s 9 0)

-- ---- the marks of the first slots, and of one more
module _ (ss : List Bytes) (m : List ℕ) (i : ℕ) (h : i < length ss) (room : i < length m) where
  pub one_more : take i m ≡ take i (map mark_in ss) → take (i + 1) (set m i (mark_in (get_or ss i []))) ≡ take (i + 1) (map mark_in ss)
  one_more p =
      let long : i < length (map mark_in ss) = rw (length-map ss mark_in) h in
      let here : get_or (map mark_in ss) i (mark_in []) ≡ mark_in (get_or ss i []) = get_or-map mark_in ss i [] in
      rw add-one
      (take-suc-set m i (mark_in (get_or ss i [])) room
      ∙ rw (p, ← here)
      (sym (take-suc (map mark_in ss) i (mark_in []) long)))

pub all_there : (ss : List Bytes) (m : List ℕ) (i : ℕ) → i ≡ length ss → take i m ≡ take i (map mark_in ss) → take (length ss) m ≡ map mark_in ss
all_there ss m i e p = (rw e at p) ∙ take_all (length ss) (map mark_in ss) (rw (length-map ss mark_in) (omega arith))

-- ---- how often a number stands
pub times_here : (x : ℕ) (m : List ℕ) (i : ℕ) → i < length m → get_or m i 0 ≡ x → times_of x (drop i m) ≡ suc (times_of x (drop (i + 1) m))
unfolding times_of
times_here x m i h e = rw (drop-cons m i 0 h, add-one, eq-eqb _ _ e)

pub times_other : (x : ℕ) (m : List ℕ) (i : ℕ) → i < length m → (get_or m i 0 ≡ x → ⊥) → times_of x (drop i m) ≡ times_of x (drop (i + 1) m)
unfolding times_of
times_other x m i h e = rw (drop-cons m i 0 h, add-one, ne_eqb _ _ e)

pub times_end : (x : ℕ) (m : List ℕ) (i : ℕ) → length m ≤ i → times_of x (drop i m) ≡ 0
unfolding times_of
times_end x m i h = rw (drop_of_length-le m {i = i} h)

times_both : (x : ℕ) (a b : List ℕ) → times_of x (a ++ b) ≡ times_of x a + times_of x b
unfolding times_of
times_both x [] b = sym (zero-add (times_of x b))
times_both x (y ∷ a) b = go (eqb y x) (times_both x a b)
  where
    go : (q : Bool) → times_of x (a ++ b) ≡ times_of x a + times_of x b → (if q then suc (times_of x (a ++ b)) else times_of x (a ++ b)) ≡ (if q then suc (times_of x a) else times_of x a) + times_of x b
    go true ih = omega (arith, ih)
    go false ih = ih

times_first : (x : ℕ) (b : List ℕ) → times_of x (x ∷ b) ≡ suc (times_of x b)
unfolding times_of
times_first x b = rw (eq-eqb x x refl) refl

in_handle : (s : Bytes) (l : List ℕ) → times_of (mark_in s) l ≡ 0 → times_of (mark_of (part 1 10 s)) l ≡ 0
unfolding mark_in
in_handle s l e = e

-- ---- slots, none of which has the handle's mark
not_named : (h s : Bytes) → (mark_in s ≡ mark_of h → ⊥) → named h (unpack s) ≡ false
unfolding mark_in
not_named h s other = go (place_of s) refl
  where
    go : (p : ℕ) → place_of s ≡ p → named h (unpack s) ≡ false
    go zero at = named_empty s h at
    go (suc p) at = named_taken s h (λ z. omega (arith, z, at)) ∙ split h (part 1 10 s) (λ e. absurd (other (ap mark_of (sym e)))) (λ e. e)

none_marked : (h : Bytes) (ss : List Bytes) → times_of (mark_of h) (map mark_in ss) ≡ 0 → in_use h (map unpack ss) ≡ false
unfolding times_of
none_marked h [] e = refl
none_marked h (s ∷ ss) e = go (eqb (mark_in s) (mark_of h)) refl e (none_marked h ss)
  where
    go : (b : Bool) → eqb (mark_in s) (mark_of h) ≡ b → (if b then suc (times_of (mark_of h) (map mark_in ss)) else times_of (mark_of h) (map mark_in ss)) ≡ 0
        → (times_of (mark_of h) (map mark_in ss) ≡ 0 → in_use h (map unpack ss) ≡ false) → in_use h (map unpack (s ∷ ss)) ≡ false
    go true q z ih = absurd (omega (arith, z))
    go false q z ih = rw (not_named h s (λ e. true≢false (sym (eq-eqb _ _ e) ∙ q))) (ih z)

-- ---- among zeros only 0 stands, as often as there are zeros; so among sixteen no number stands once
zero_among : (n : ℕ) → times_of 0 (replicate n 0) ≡ n
unfolding times_of
zero_among zero = refl
zero_among (suc n) = ap suc (zero_among n)

other_among : (x n : ℕ) → times_of (suc x) (replicate n 0) ≡ 0
unfolding times_of
other_among x zero = refl
other_among x (suc n) = rw (ne_eqb 0 (suc x) (λ z. omega (arith, z))) (other_among x n)

not_among_zeros : (x : ℕ) → times_of x (replicate 16 0) ≡ 1 → ⊥
not_among_zeros zero e = omega (arith, zero_among 16, e)
not_among_zeros (suc x) e = omega (arith, other_among x 16, e)

-- ---- slot i of some slots with their marks
module _ (ss : List Bytes) (m : List ℕ) (i : ℕ) (h : i < length ss) where
  abbrev s : Bytes
  s = get_or ss i []

  around : map mark_in ss ≡ map mark_in (take i ss) ++ mark_in s ∷ map mark_in (drop (i + 1) ss)
  around =
      ap (map mark_in) (sym (take-append-drop i ss) ∙ ap (λ (l : List Bytes). take i ss ++ l) (slots_on ss i h))
      ∙ map-append mark_in (take i ss) (s ∷ drop (i + 1) ss)

  all_marks : Marked ss m → length ss ≤ 16 → m ≡ (map mark_in (take i ss) ++ mark_in s ∷ map mark_in (drop (i + 1) ss)) ++ drop (length ss) m
  all_marks k few = sym (take-append-drop (length ss) m) ∙ rw (k.marks few, around)

  none_later : Marked ss m → length ss ≤ 16 → times_of (mark_in s) m < 2 → times_of (mark_in s) (map mark_in (drop (i + 1) ss)) ≡ 0
  none_later k few once =
      let x : ℕ = mark_in s in
      let a : List ℕ = map mark_in (take i ss) in
      let b : List ℕ = map mark_in (drop (i + 1) ss) in
      let here : times_of x (mark_in s ∷ b) ≡ suc (times_of x b) = times_first x b in
      omega (arith, ap (times_of x) (all_marks k few), times_both x (a ++ mark_in s ∷ b) (drop (length ss) m), times_both x a (mark_in s ∷ b), here, once)

  -- as it is tested: its mark was seen once among the marks
  pub mark_once : Marked ss m → (x : ℕ) → x ≡ mark_in s → eqb (times_of x m) 1 ≡ true → (place_of s ≡ 0 → ⊥) → again (map unpack (drop i ss)) ≡ false
  mark_once k x mark one p = go (leb (length ss) 16) refl
    where
      once : times_of (mark_in s) m ≡ 1
      once = rw (← mark) (eqb_eq (times_of x m) 1 one)

      go : (b : Bool) → leb (length ss) 16 ≡ b → again (map unpack (drop i ss)) ≡ false
      go true few =
          again_taken ss i h p
          ∙ none_marked (part 1 10 s) (drop (i + 1) ss) (in_handle s _ (none_later k (leb-true (length ss) 16 few) (omega (arith, once))))
      go false many = absurd (not_among_zeros (mark_in s) (sym (ap (times_of (mark_in s)) (k.more (leb-false (length ss) 16 many))) ∙ once))
