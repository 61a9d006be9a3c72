-- `tallies::count::tally_of` meets its contract. The invariant: with what the slots from the index on add, the numbers are those of the table. Assumes nothing.
use mathlib.Core.Path.{refl}
use Prim.Native.Nat.{◌≤◌}
use native.Mathlib.Omega.{arith}
use Rattle.profile.specs.Table.{slot_count}
use Rattle.tallies.proofs.Counting.{one_lent, all_counted, slots_most_15, counts_most_15}
use Rattle.tallies.proofs.count.tally_of.Goals as goal

pub overflow_add-places : goal.overflow_add-places
overflow_add-places c =
    let t = c.args.t.now in
    omega (
      arith,
      (one_lent t c.requires.1 _ c.slots_in-s-items.ensures c.loop-s.s-index c.loop-s-test.true c.place_of.result c.number_of-place.result _ _ _
          c.place_of.ensures c.number_of-place.ensures.0 refl c.loop-s.invariant).placed,
      counts_most_15 t c.requires.1 c.requires.0,
    )

pub overflow_add-payload : goal.overflow_add-payload
overflow_add-payload c =
    let t = c.args.t.now in
    omega (
      arith,
      c.in_sum-payload.ensures,
      (one_lent t c.requires.1 _ c.slots_in-s-items.ensures c.loop-s.s-index c.loop-s-test.true c.place_of.result c.number_of-place.result c.word_at.result _ _
          c.place_of.ensures c.number_of-place.ensures.0 c.word_at.ensures c.loop-s.invariant).most,
      c.slots_in-s-items.ensures.1,
      c.loop-s-test.true,
      slots_most_15 t c.requires.1 c.requires.0,
    )

pub loop-s-preserved : goal.loop-s-preserved
loop-s-preserved c =
    rw c.in_sum-payload.ensures
    (one_lent c.args.t.now c.requires.1 _ c.slots_in-s-items.ensures c.loop-s.s-index c.loop-s-test.true c.place_of.result c.number_of-place.result c.word_at.result _ _
    c.place_of.ensures c.number_of-place.ensures.0 c.word_at.ensures c.loop-s.invariant)

pub overflow_cast-result-4 : goal.overflow_cast-result-4
overflow_cast-result-4 c = omega (arith, c.loop-s.invariant.placed, counts_most_15 c.args.t.now c.requires.1 c.requires.0)

pub returns : goal.returns
returns c =
    let end : slot_count c.args.t.now ≤ c.loop-s.s-index = omega (arith, c.slots_in-s-items.ensures.1, c.loop-s-test.false) in
    all_counted c.args.t.now c.requires.1 c.requires.0 c.loop-s.s-index c.loop-s.places c.loop-s.payload end c.loop-s.invariant
