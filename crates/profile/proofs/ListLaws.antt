-- The laws of kind 8 hold (PROFILE 5.8): the handles listed are those asked for, in slot order, as many as the limit lets; and no other list meets them.
use Prim.Native.Nat.{ℕ, zero, suc, ◌+◌, ◌*◌, ◌/◌, ◌≤◌, ◌<◌, min}
use mathlib.Core.Path.{◌≡◌, refl, sym, ap, ◌∙◌}
use mathlib.Core.Logic.{◌↔◌, inl, inr}
use mathlib.Core.List.{List, [], ◌∷◌, ◌++◌, cons≢nil}
use mathlib.Core.Option.{Option, some, some-injective}
use mathlib.Core.Bool.{Bool, true, false, true≢false, false≢true}
use native.Mathlib.Omega.{arith}
use lib.Dec.{eqb, ltb, lt→ltb}
use lib.ListN.{length, get_elem?, take, drop, length-append, length-take, length-drop, take-append-drop}
use lib.Seq.{drop-length, take_at}
use Rattle.std.specs.Prelude.{if◌then◌else◌}
use Rattle.profile.specs.Bytes.{Bytes, same, any, In}
use Rattle.profile.specs.Slot.{Right, reserved, enabled, disabled, Slot, empty, taken}
use Rattle.profile.specs.Request.{list}
use Rattle.profile.specs.Agent.{Given, handles, asked, listed, fitting, first_of, Answer, done, act}
use Rattle.profile.specs.Laws.{AskedFor, InSlotOrder, no_slot, asked_for, not_asked, is_lent, is_reserved, is_empty, Shown, WithinLimit, ListsExactly}
use Rattle.profile.proofs.Logic.{T→eq, or_parts, same_refl, same_eq, ltb_false, ltb_lt, ltb_over, eqb_eq, positive}
use Rattle.profile.proofs.FirstEmpty.{not_there}
use Rattle.profile.proofs.Laws.{IsEnabled, enabled_there, same_handle, same_right}

-- ---- the list of kind 8
in_head : {A : Type 0} (x : A) (xs : List A) → In x (x ∷ xs)
in_head x xs = (0, refl)

in_tail : {A : Type 0} (x y : A) (xs : List A) → In x xs → In x (y ∷ xs)
in_tail x y xs m = (suc m.0, m.1)

module _ {A : Type 0} (f : A → Bool) where
  any_in : (xs : List A) → any f xs ≡ true → (x : A) × In x xs × (f x ≡ true)
  any_in [] e = absurd (false≢true e)
  any_in (x ∷ xs) e = go (f x) refl (any_in xs)
    where
      go : (b : Bool) → f x ≡ b → (any f xs ≡ true → (y : A) × In y xs × (f y ≡ true)) → (y : A) × In y (x ∷ xs) × (f y ≡ true)
      go true p ih = (x, in_head x xs, p)
      go false p ih =
          let r = ih (rw p at e) in
          (r.0, in_tail r.0 x xs r.1, r.2)

  none_in : (xs : List A) → any f xs ≡ false → (x : A) (i : ℕ) → get_elem? xs i ≡ some x → f x ≡ false
  none_in [] e x i p = absurd (not_there p)
  none_in (y ∷ xs) e x zero p = ap f (sym (some-injective y x p)) ∙ (or_parts (f y) (any f xs) e).0
  none_in (y ∷ xs) e x (suc i) p = none_in xs (or_parts (f y) (any f xs) e).1 x i p

-- the test says so exactly where it is so
test_yes : (q : List Bytes) (r : Right) → asked q r ≡ true → AskedFor q r
test_yes [] r e = inl refl
test_yes (a ∷ q) r e =
    let x = any_in (λ (x : Bytes). any (same x) r.hashes) (a ∷ q) e in
    let y = any_in (same x.0) r.hashes x.2 in
    inr (x.0, x.1, rw (← (same_eq x.0 y.0 y.2)) at y.1)

test_no : (q : List Bytes) (r : Right) → asked q r ≡ false → AskedFor q r → ⊥
test_no [] r e w = true≢false e
test_no (a ∷ q) r e (inl w) = cons≢nil w
test_no (a ∷ q) r e (inr w) =
    let n = none_in (λ (x : Bytes). any (same x) r.hashes) (a ∷ q) e w.0 w.1.0 w.1.1 in
    true≢false (sym (same_refl w.0) ∙ none_in (same w.0) r.hashes n w.0 w.2.0 w.2.1)

ordered : (q : List Bytes) (t : List Slot) → InSlotOrder q t (listed q t)
ordered q [] = no_slot
ordered q (empty ∷ t) = is_empty (ordered q t)
ordered q (taken h (reserved n) ∷ t) = is_reserved (ordered q t)
ordered q (taken h (disabled r) ∷ t) = is_lent (ordered q t)
ordered q (taken h (enabled r) ∷ t) = go (asked q r) refl (ordered q t)
  where
    go : (b : Bool) → asked q r ≡ b → InSlotOrder q t (listed q t) → InSlotOrder q (taken h (enabled r) ∷ t) ((if b then h ∷ [] else []) ++ listed q t)
    go true p o = asked_for (test_yes q r p) o
    go false p o = not_asked (test_no q r p) o

-- no other list meets the law
ordered_only : (q : List Bytes) {t : List Slot} {hs : List Bytes} → InSlotOrder q t hs → hs ≡ listed q t
ordered_only q no_slot = refl
ordered_only q (asked_for {h = h} {r = r} {t = t} {hs = hs} a o) = go (asked q r) refl (ordered_only q o)
  where
    go : (b : Bool) → asked q r ≡ b → hs ≡ listed q t → h ∷ hs ≡ (if b then h ∷ [] else []) ++ listed q t
    go true p e = ap {B = List Bytes} (λ (x : List Bytes). h ∷ x) e
    go false p e = absurd (test_no q r p a)
ordered_only q (not_asked {h = h} {r = r} {t = t} {hs = hs} n o) = go (asked q r) refl (ordered_only q o)
  where
    go : (b : Bool) → asked q r ≡ b → hs ≡ listed q t → hs ≡ (if b then h ∷ [] else []) ++ listed q t
    go true p e = absurd (n (test_yes q r p))
    go false p e = e
ordered_only q (is_lent o) = ordered_only q o
ordered_only q (is_reserved o) = ordered_only q o
ordered_only q (is_empty o) = ordered_only q o

-- ---- and its handles: those of enabled records asked for
module _ {q : List Bytes} where
  further : {s : Slot} {t : List Slot} {h : Bytes} → Shown q t h → Shown q (s ∷ t) h
  further w = record { slot = suc w.slot; right = w.right; stands = w.stands; asked = w.asked }

  shown_in : {t : List Slot} {hs : List Bytes} → InSlotOrder q t hs → (h : Bytes) → In h hs → Shown q t h
  shown_in no_slot h m = absurd (not_there m.1)
  shown_in (asked_for {h = k} {r = r} {hs = hs} a o) h m = go m.0 m.1 (shown_in o h)
    where
      go : {t : List Slot} (i : ℕ) → get_elem? (k ∷ hs) i ≡ some h → (In h hs → Shown q t h) → Shown q (taken k (enabled r) ∷ t) h
      go zero p ih = record { slot = 0; right = r; stands = ap {B = Option Slot} (λ (x : Bytes). some (taken x (enabled r))) (some-injective k h p); asked = a }
      go (suc i) p ih = further (ih (i, p))
  shown_in (not_asked n o) h m = further (shown_in o h m)
  shown_in (is_lent o) h m = further (shown_in o h m)
  shown_in (is_reserved o) h m = further (shown_in o h m)
  shown_in (is_empty o) h m = further (shown_in o h m)

  in_shown : {t : List Slot} {hs : List Bytes} → InSlotOrder q t hs → (h : Bytes) (r : Right) → AskedFor q r → (i : ℕ) → get_elem? t i ≡ some (taken h (enabled r)) → In h hs
  unfolding IsEnabled
  in_shown no_slot h r w i p = absurd (not_there p)
  in_shown (asked_for a o) h r w zero p = (0, ap {B = Option Bytes} some (same_handle p))
  in_shown (asked_for {h = k} {hs = hs} a o) h r w (suc i) p = in_tail h k hs (in_shown o h r w i p)
  in_shown (not_asked n o) h r w zero p = absurd (n (rw (← (same_right p)) at w))
  in_shown (not_asked n o) h r w (suc i) p = in_shown o h r w i p
  in_shown (is_lent {h = k} {r = s} o) h r w zero p = absurd (enabled_there (taken k (disabled s)) h r p)
  in_shown (is_lent o) h r w (suc i) p = in_shown o h r w i p
  in_shown (is_reserved {h = k} {n = n} o) h r w zero p = absurd (enabled_there (taken k (reserved n)) h r p)
  in_shown (is_reserved o) h r w (suc i) p = in_shown o h r w i p
  in_shown (is_empty o) h r w zero p = absurd (enabled_there empty h r p)
  in_shown (is_empty o) h r w (suc i) p = in_shown o h r w i p

pub listed_exact : (q : List Bytes) (t : List Slot) (h : Bytes) → In h (listed q t) ↔ Shown q t h
listed_exact q t h = (shown_in (ordered q t) h, λ w. in_shown (ordered q t) h w.right w.asked w.slot w.stands)

-- ---- the limit
no_bytes : (n : ℕ) (hs : List Bytes) → n ≡ length hs → drop n hs ≡ []
no_bytes n hs e = rw e (drop-length hs)

-- of n handles, m are given
record Fits (limit n m : ℕ) : Type 0 where
  most : m ≤ n
  none_limits : limit ≡ 0 → m ≡ n
  fit : 1 ≤ limit → 10 * m ≤ limit
  no_more : m < n → limit < 10 * m + 10

fitting_fits : (limit n : ℕ) → Fits limit n (fitting limit n)
fitting_fits limit n = go (eqb limit 0) refl
  where
    go : (b : Bool) → eqb limit 0 ≡ b → Fits limit n (if b then n else min n (limit / 10))
    go true e =
        let z : limit ≡ 0 = eqb_eq limit 0 e in
        record { most = omega arith; none_limits = λ _. refl; fit = λ h. omega (arith, z, h); no_more = λ h. omega (arith, h) }
    go false e =
        let z : 1 ≤ limit = positive limit e in
        record { most = omega arith; none_limits = λ y. omega (arith, z, y); fit = λ _. omega arith; no_more = λ h. omega (arith, h) }

within : (limit : ℕ) (hs : List Bytes) → WithinLimit limit hs (first_of limit hs)
within limit hs =
    record {
      first = take n hs;
      left_off = drop n hs;
      parts = sym (take-append-drop n hs);
      more = ltb n (length hs);
      gives = refl;
      unlimited = λ z. no_bytes n hs (f.none_limits z);
      fit = λ h. rw size (f.fit h);
      no_more_fit = λ h. rw size (f.no_more (omega (arith, rw (length-drop n hs) at h)));
      says_more = λ h. lt_true n (length hs) (omega (arith, rw (length-drop n hs) at h));
      says_all = λ e. ltb_false n (length hs) (omega (arith, length-drop n hs, ap (λ (x : List Bytes). length x) e));
    }
  where
    n : ℕ
    n = fitting limit (length hs)

    lt_true : (a b : ℕ) → a < b → ltb a b ≡ true
    lt_true a b h = T→eq (ltb a b) (lt→ltb a b h)

    f : Fits limit (length hs) n
    f = fitting_fits limit (length hs)

    size : length (take n hs) ≡ n
    size = length-take n hs ∙ omega (arith, f.most)

-- no other number of handles meets the law
one_number : (limit n a b : ℕ) → Fits limit n a → Fits limit n b → a ≤ b
one_number limit n a b f g = go (ltb b n) refl
  where
    go : (c : Bool) → ltb b n ≡ c → a ≤ b
    go true e = room (eqb limit 0) refl
      where
        room : (z : Bool) → eqb limit 0 ≡ z → a ≤ b
        room true y = absurd (omega (arith, ltb_lt b n e, g.none_limits (eqb_eq limit 0 y)))
        room false y = omega (arith, f.fit (positive limit y), g.no_more (ltb_lt b n e))
    go false e = omega (arith, ltb_over b n e, f.most)

module _ (limit : ℕ) (hs : List Bytes) (g : Given) (w : WithinLimit limit hs g) where
  sizes : length w.first + length w.left_off ≡ length hs
  sizes = sym (length-append w.first w.left_off) ∙ ap (λ (x : List Bytes). length x) (sym w.parts)

  none_left : length hs ≤ length w.first → w.left_off ≡ []
  none_left h = go w.left_off (omega (arith, sizes, h))
    where
      go : (xs : List Bytes) → length xs ≤ 0 → xs ≡ []
      go [] z = refl
      go (x ∷ xs) z = absurd (omega (arith, z))

  their_fits : Fits limit (length hs) (length w.first)
  their_fits =
      record {
        most = omega (arith, sizes);
        none_limits = λ z. omega (arith, sizes, ap (λ (x : List Bytes). length x) (w.unlimited z));
        fit = w.fit;
        no_more = λ h. w.no_more_fit (omega (arith, sizes, h));
      }

  as_many : length w.first ≡ fitting limit (length hs)
  as_many =
      omega (
        arith,
        one_number limit (length hs) (length w.first) (fitting limit (length hs)) their_fits (fitting_fits limit (length hs)),
        one_number limit (length hs) (fitting limit (length hs)) (length w.first) (fitting_fits limit (length hs)) their_fits,
      )

  more_is : w.more ≡ ltb (length w.first) (length hs)
  more_is = go (ltb (length w.first) (length hs)) refl
    where
      go : (b : Bool) → ltb (length w.first) (length hs) ≡ b → w.more ≡ b
      go true e = w.says_more (omega (arith, sizes, ltb_lt (length w.first) (length hs) e))
      go false e = w.says_all (none_left (ltb_over (length w.first) (length hs) e))

  within_only : g ≡ first_of limit hs
  within_only =
      w.gives
      ∙ rw (more_is, as_many) (ap {B = Given} (λ (x : List Bytes). handles (ltb (fitting limit (length hs)) (length hs)) x) first_is)
    where
      first_is : w.first ≡ take (fitting limit (length hs)) hs
      first_is = rw (← as_many) (sym (take_at w.first w.left_off (length w.first) refl) ∙ ap (take (length w.first)) (sym w.parts))

-- no other answer meets the laws
pub lists_only : (free : ℕ) (t : List Slot) (limit : ℕ) (q : List Bytes) (g : Given) → ListsExactly limit q t g → act free t (list limit q) ≡ done g t
unfolding act
lists_only free t limit q g w =
    ap {B = Answer} (λ (x : Given). done x t)
    (ap (first_of limit) (sym (ordered_only q w.ordered)) ∙ sym (within_only limit w.all g w.limited))

pub lists_exactly : (free : ℕ) (t : List Slot) (limit : ℕ) (q : List Bytes) → (g : Given) × (act free t (list limit q) ≡ done g t) × ListsExactly limit q t g
unfolding act
lists_exactly free t limit q = (
  first_of limit (listed q t),
  refl,
  record {
    all = listed q t;
    ordered = ordered q t;
    exact = listed_exact q t;
    limited = within limit (listed q t);
  },
)
