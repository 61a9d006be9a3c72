-- PROFILE 8.7: the change of a call is never above 0, and neither is a total of such changes.
use Prim.Native.Nat.{ℕ, ◌+◌, ◌-◌, ◌≤◌}
use mathlib.Core.Path.{◌≡◌, refl, sym, ap, ap₂, ◌∙◌}
use mathlib.Core.List.{List, [], ◌∷◌}
use mathlib.Core.Bool.{Bool, true, false}
use native.Mathlib.Omega.{arith}
use lib.Dec.{eqb}
use lib.IntN.{ℤ, pos, neg_ℤ, ◌+ℤ◌, ◌-ℤ◌, +ℤ_idl, +ℤ_assoc, +ℤ_invr, neg_ℤ-+ℤ, pos-+ℤ-pos}
use Rattle.std.specs.Prelude.{if◌then◌else◌}
use Rattle.profile.specs.Bytes.{Bytes}
use Rattle.profile.specs.Slot.{Count, None, Some, raises, reserved, enabled, disabled, Slot}
use Rattle.profile.specs.Table.{slots_of}
use Rattle.profile.specs.Frame.{kind_number}
use Rattle.profile.specs.Request.{Request, setup, install, retrieve, rek, enable, remove, cancel, list, info, Read, asks, refused, no_frame, read_request}
use Rattle.profile.specs.Agent.{Answer, Found, absent, one, find, when_found, enable_at, act, status, Call, Outcome, refuse, obey, on_bytes}
use Rattle.profile.specs.Run.{exchange}
use Rattle.profile.specs.Rising.{NotAbove}
use Rattle.profile.specs.Total.{Return, no_return, returned, return_from, return_by, return_in, return_of, change, change_of, Totals, totals_hold}
use Rattle.profile.specs.Totals.{step, totals_then, no_totals}
use Rattle.profile.proofs.Logic.{if_both, if_cases, ltb_over}
use Rattle.profile.proofs.Numbers.{by_agent}
use Rattle.profile.proofs.Counts.{status_over}
use Rattle.profile.proofs.Total.{refused_108, called}

-- ---- signed numbers
none_above : NotAbove (pos 0)
none_above = record { below = 0; is = refl }

-- b minus a, where b is at most a
difference_below : (a b : ℕ) → b ≤ a → NotAbove (pos b -ℤ pos a)
difference_below a b h =
    let e : a ≡ b + (a - b) = omega (arith, h) in
    record {
      below = a - b;
      is =
          ap (λ (n : ℕ). pos b -ℤ pos n) e
          ∙ ap (λ (z : ℤ). pos b +ℤ neg_ℤ z) (sym (pos-+ℤ-pos b (a - b)))
          ∙ ap (λ (z : ℤ). pos b +ℤ z) (neg_ℤ-+ℤ (pos b) (pos (a - b)))
          ∙ sym (+ℤ_assoc (pos b) (neg_ℤ (pos b)) (neg_ℤ (pos (a - b))))
          ∙ ap (λ (z : ℤ). z +ℤ neg_ℤ (pos (a - b))) (+ℤ_invr (pos b))
          ∙ +ℤ_idl (neg_ℤ (pos (a - b)));
    }

sum_below : (x y : ℤ) → NotAbove x → NotAbove y → NotAbove (x +ℤ y)
sum_below x y p q =
    record {
      below = p.below + q.below;
      is =
          ap₂ (λ (a b : ℤ). a +ℤ b) p.is q.is
          ∙ sym (neg_ℤ-+ℤ (pos p.below) (pos q.below))
          ∙ ap neg_ℤ (pos-+ℤ-pos p.below q.below);
    }

-- ---- the change of a return
return_below : (stored sent : Count) → raises stored sent ≡ false → NotAbove (change (returned stored sent))
return_below None sent e = none_above
return_below (Some a) None e = none_above
return_below (Some a) (Some b) e = difference_below a b (ltb_over a b e)

-- by the answer to an enablement, on the record found
abbrev Below : Answer → Return → Type 0
Below a r = NotAbove (change (if eqb (status a) 0 then r else no_return))

nothing_below : (a : Answer) → Below a no_return
nothing_below a = if_both (λ (r : Return). NotAbove (change r)) (eqb (status a) 0) {x = no_return} {y = no_return} none_above none_above

module _ (t : List Slot) where
  enable_below : (h : Bytes) (c : Count) (f : Found) → Below (when_found f (enable_at t h c)) (return_from f c)
  enable_below h c absent = none_above
  enable_below h c (one i (reserved n)) = none_above
  enable_below h c (one i (enabled r)) = none_above
  enable_below h c (one i (disabled r)) =
      if_cases (λ (a : Answer). Below a (returned r.count c)) (raises r.count c) (λ e. none_above) (return_below r.count c)

  acts_below : (free : ℕ) (q : Request) → Below (act free t q) (return_by t q)
  unfolding act
  acts_below free (setup h n) = nothing_below (act free t (setup h n))
  acts_below free (install h r) = nothing_below (act free t (install h r))
  acts_below free (retrieve h k) = nothing_below (act free t (retrieve h k))
  acts_below free (rek h k) = nothing_below (act free t (rek h k))
  acts_below free (enable h c) = enable_below h c (find h t)
  acts_below free (remove h) = nothing_below (act free t (remove h))
  acts_below free (cancel h) = nothing_below (act free t (cancel h))
  acts_below free (list limit q) = nothing_below (act free t (list limit q))
  acts_below free (info h) = nothing_below (act free t (info h))

module _ (table : Bytes) (c : Call) where
  abbrev ReadBelow : Read → Outcome → Type 0
  ReadBelow r o = NotAbove (change (return_in (slots_of table) (exchange r o)))

  refused_below : (n : ℕ) → eqb n 0 ≡ false → (r : Read) → ReadBelow r (refuse n table c)
  refused_below n e (asks q) = rw e none_above
  refused_below n e (refused r) = none_above
  refused_below n e no_frame = none_above

  answered_below : (free : ℕ) (r : Read) → ReadBelow r (on_bytes (kind_number c.request) (obey r free (slots_of table)) table c)
  answered_below free (asks q) = rw (status_over (kind_number c.request) (act free (slots_of table) q) c.buffer) (acts_below (slots_of table) free q)
  answered_below free (refused r) = none_above
  answered_below free no_frame = none_above

  pub never_above : NotAbove (change_of table c)
  unfolding return_of
  never_above =
      by_agent table c (ReadBelow (read_request c.request))
      (λ n e. refused_below n e (read_request c.request))
      (λ whole well _ free z. answered_below free (read_request c.request))

-- ---- totals
step_below : (table : Bytes) (t : Totals) (c : Call) → NotAbove t.total → NotAbove (step table t c).totals.total
step_below table t c n = go (totals_hold t) refl
  where
    go : (b : Bool) → totals_hold t ≡ b → NotAbove (step table t c).totals.total
    go false e = rw (refused_108 table c t (pos 0) e) n
    go true e = rw (called table c t (pos 0) e) (sum_below t.total (change_of table c) n (never_above table c))

then_below : (table : Bytes) (t : Totals) (cs : List Call) → NotAbove t.total → NotAbove (totals_then table t cs).total
then_below table t [] n = n
then_below table t (c ∷ cs) n = then_below (step table t c).outcome.table (step table t c).totals cs (step_below table t c n)

pub total_not_above : (table : Bytes) (cs : List Call) → NotAbove (totals_then table no_totals cs).total
total_not_above table cs = then_below table no_totals cs none_above
