-- `salvage::slots_left::leave_slots` meets its contract. The invariant: the first i slots are settled, reported and counted. Assumes nothing.
use Prim.Native.Nat.{◌<◌, ◌≤◌}
use mathlib.Core.Path.{◌∙◌}
use native.Mathlib.Omega.{arith}
use Rattle.profile.proofs.WholeSlots.{at_most_15}
use Rattle.profile.specs.Table.{slot_count}
use Rattle.salvage.proofs.Leaving.{settled_whole, settled_none, settled_all, found_is, settled_more}
use Rattle.salvage.proofs.Reporting.{reported_none, cleared_none, few_to, reported_more, cleared_next, reported_all, cleared_all, passed_below, passed_all}
use Rattle.salvage.proofs.slots_left.leave_slots.Goals as goal

pub loop-i-init : goal.loop-i-init
loop-i-init c =
    let t = c.args.t.now in
    record { settled = settled_none t c.requires.0; told = reported_none t _; counted = cleared_none t }

pub settle-found-requires : goal.settle-found-requires
settle-found-requires c = (rw c.loop-i.invariant.settled (settled_whole c.args.t.now c.requires.0 c.loop-i.i), omega (arith, passed_below c.args.t.now c.args.report.now c.loop-i.i c.requires.1 c.loop-i-test.true))

pub counted-cleared-requires : goal.counted-cleared-requires
counted-cleared-requires c =
    let i = c.loop-i.i in
    omega (arith, passed_below c.args.t.now c.args.report.now i c.requires.1 c.loop-i-test.true, c.loop-i.invariant.counted, few_to i c.args.t.now, at_most_15 c.args.t.now c.requires.0)

pub loop-i-preserved : goal.loop-i-preserved
loop-i-preserved c =
    let t = c.args.t.now in
    let i = c.loop-i.i in
    let h : i < slot_count t = passed_below t c.args.report.now i c.requires.1 c.loop-i-test.true in
    let s = c.settle-found.ensures in
    let e = found_is t c.requires.0 i h c.loop-i.t c.loop-i.invariant.settled _ _ s in
    record {
      settled = settled_more t c.requires.0 i h c.loop-i.t c.loop-i.invariant.settled _ _ s;
      told = rw c.loop-i.invariant.told (reported_more t i h _ _ _ c.loop-i-test.true e c.byte.ensures);
      counted = cleared_next t i h _ _ _ e c.loop-i.invariant.counted c.counted-cleared.ensures;
    }

pub returns : goal.returns
returns c =
    let t = c.args.t.now in
    let i = c.loop-i.i in
    let h : slot_count t ≤ i = passed_all t c.args.report.now i c.requires.1 c.loop-i-test.false in (
      c.loop-i.invariant.counted ∙ cleared_all t i h,
      c.loop-i.invariant.settled ∙ settled_all t c.requires.0 i h,
      reported_all t i c.args.report.now h c.requires.1 _ c.loop-i.invariant.told,
    )
