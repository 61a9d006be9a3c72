-- Tests and what the branches say of them: the sets for a `return` of a function whose contract goes by tests. Assumes nothing.
use Prim.Native.Nat.{ℕ}
use mathlib.Core.Path.{◌≡◌, sym, ap, ◌∙◌}
use mathlib.Core.Bool.{Bool, true, false, not}
use borrow.Author.Tests.{eq-eqb, ne_eqb, lt-ltb, le-ltb, le-leb, lt-leb, not-true, not-false}
use lib.Dec.{eqb}
use Rattle.std.specs.Prelude.{if◌then◌else◌, Result, Ok, Err, IsErrAnd}
use Rattle.profile.specs.Slot.{count_holds}
use Rattle.request_reader.specs.declared.asked.Why.{Why}
use Rattle.request_reader.specs.declared.asked.Why.TheVariants.{Parameter, Integrity}
use Rattle.request_reader.specs.Asking.{tested}

pub ruleset tests = (eq-eqb, ne_eqb, lt-ltb, le-ltb, le-leb, lt-leb)

-- a test that was made, and what it came to
pub was_false : {b c : Bool} → b ≡ c → not b ≡ true → c ≡ false
was_false {b = b} e t = rw (← e) (not-true b t)

pub was_true : {b c : Bool} → b ≡ c → not b ≡ false → c ≡ true
was_true {b = b} e t = rw (← e) (not-false b t)

-- the bit and the number of a count, as they were read: they say no count, or one
pub no_count_said : {b m bit n : ℕ} {h : Bool} → b ≡ bit → m ≡ n → h ≡ count_holds b m → not h ≡ true → count_holds bit n ≡ false
no_count_said {h = h} p q e t = rw (← p, ← q, ← e) (not-true h t)

pub count_said : {b m bit n : ℕ} {h : Bool} → b ≡ bit → m ≡ n → h ≡ count_holds b m → not h ≡ false → count_holds bit n ≡ true
count_said {h = h} p q e t = rw (← p, ← q, ← e) (not-false h t)

-- an error that `?` hands on
pub handed_on : {A : Type 0} {r : Result A Why} {w : Why} → IsErrAnd r (λ x. x ≡ w) → r ≡ Err w
handed_on {r = Ok x} h = absurd h
handed_on {r = Err x} h = ap Err h

-- the tests of a body, by what `fits` gave: the refusal is the answer's, or the tests hold
module _ {A : Type 0} (fits : Bool) (v : ℕ) {t : Result (Unit {0}) Why} (e : t ≡ tested fits v (Ok tt)) where
  pub refused_too : {w : Why} → t ≡ Err w → {s : Result A Why} → s ≡ Err w → (a : Result A Why) → s ≡ tested fits v a
  refused_too {w} p {s} q a = go fits (eqb v 0) (sym e ∙ p)
    where
      go : (f z : Bool) → (if not f then Err Parameter else if z then Err Integrity else Ok (tt {0})) ≡ Err w → s ≡ (if not f then Err Parameter else if z then Err Integrity else a)
      go true true h = cc
      go true false h = cc
      go false z h = cc

  pub goes_on : {u : Unit {0}} → t ≡ Ok u → {s a : Result A Why} → s ≡ a → s ≡ tested fits v a
  goes_on {u} p {s} {a} q = go fits (eqb v 0) (sym e ∙ p)
    where
      go : (f z : Bool) → (if not f then Err Parameter else if z then Err Integrity else Ok (tt {0})) ≡ Ok u → s ≡ (if not f then Err Parameter else if z then Err Integrity else a)
      go true true h = cc
      go true false h = q
      go false z h = cc
