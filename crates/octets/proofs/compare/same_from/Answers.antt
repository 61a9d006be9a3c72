-- `octets::compare::same_from` meets its contract: the last byte, and then those before it. Assumes nothing.
use Prim.Native.Nat.{◌+◌, ◌-◌}
use native.Mathlib.Omega.{arith}
use lib.ListN.{length}
use borrow.Author.Rules.{rules}
use Rattle.std.proofs.Common.{tests}
use Rattle.std.proofs.lemmas.Iterator.{YieldsList-from_slice, YieldsList-from_zip, same_from_all}
use Rattle.octets.proofs.Comparing.{same_last, other_last}
use Rattle.octets.proofs.compare.same_from.Goals as goal

pub returns-then-last-s : goal.returns-then-last-s
returns-then-last-s c =
    let cut = c.in-Some.ensures.cases in
    let n = length c.in-Some.others.now in
    same_last c.args.a.now c.args.s.now c.args.at _ _ cut.0 cut.1 c.requires c.if-last-s.true c.all.result (c.args.at + n - c.args.at) (omega arith) (λ m.
    same_from_all
    c.all.new.self
    _
    _
    _
    _
    c.all.ensures.ran
    (YieldsList-from_zip (YieldsList-from_slice _ cc) (YieldsList-from_slice _ cc))
    m
    (λ x q k. search (rules, tests))
    (λ x q k. search (rules, tests)))

pub returns-else-last-s : goal.returns-else-last-s
returns-else-last-s c =
    let cut = c.in-Some.ensures.cases in
    other_last c.args.a.now c.args.s.now _ _ _ cut.0 cut.1 c.requires c.if-last-s.false
