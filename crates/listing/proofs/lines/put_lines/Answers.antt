-- `listing::lines::put_lines` meets its contract. The invariant: the lines of the slots passed were put. Assumes nothing.
use mathlib.Core.Path.{ap}
use mathlib.Core.List.{List, []}
use lib.ListN.{get_or}
use Rattle.profile.specs.Bytes.{Bytes}
use Rattle.listing.proofs.SlotLines.{passed_none, passed_all, line_asks, pass_next}
use Rattle.listing.proofs.lines.put_lines.Goals as goal

pub loop-i-init : goal.loop-i-init
loop-i-init c = passed_none c.args.table.now c.args.text.now c.requires.0 c.requires.1

pub put_line-requires : goal.put_line-requires
put_line-requires c =
    let s = c.slots_in-slot-items.ensures in
    line_asks c.args.table.now c.args.text.now c.requires.0 c.requires.1 c.loop-i.i c.loop-i.text (rw s.1 at c.loop-i-test.true) c.loop-i.invariant
    _ (ap (λ (ps : List Bytes). get_or ps c.loop-i.i []) s.0)

pub loop-i-preserved : goal.loop-i-preserved
loop-i-preserved c =
    let s = c.slots_in-slot-items.ensures in
    pass_next c.args.table.now c.args.text.now c.requires.0 c.requires.1 c.loop-i.i c.loop-i.text (rw s.1 at c.loop-i-test.true) c.loop-i.invariant
    _ (ap (λ (ps : List Bytes). get_or ps c.loop-i.i []) s.0) _ c.put_line.ensures

pub returns : goal.returns
returns c =
    passed_all c.args.table.now c.args.text.now c.requires.0 c.requires.1 c.loop-i.i c.loop-i.text (rw c.slots_in-slot-items.ensures.1 at c.loop-i-test.false) c.loop-i.invariant
