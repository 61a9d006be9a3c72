-- `salvage::slots_left::leave_slots` meets its contract. The invariant: the first i slots are settled, reported and counted. Assumes nothing.
use mathlib.Core.Path.{◌≡◌}
use lib.ListN.{take}
use Rattle.salvage.proofs.Leaving.{settled_to}
use Rattle.salvage.proofs.Reporting.{reported_to, cleared_to}
use Rattle.salvage.proofs.slots_left.leave_slots.Given as goal

abbrev pub invariant-loop-i : goal.invariant-loop-i
invariant-loop-i l = record {
  settled : l.t ≡ settled_to l.i l.initial.t;
  told : l.told-items ≡ reported_to l.i l.initial.t (take l.n l.fn.report);
  counted : l.cleared ≡ cleared_to l.i l.initial.t;
}
