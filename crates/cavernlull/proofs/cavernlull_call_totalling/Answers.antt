-- `cavernlull::cavernlull_call_totalling` meets its contract: totals without room are given back with 108. Assumes nothing.
use mathlib.Core.Bool.{not}
use mathlib.Core.Path.{sym, ap, ◌∙◌}
use Rattle.serving.specs.Call.{call_of}
use Rattle.totals.proofs.Outcomes.{given_108}
use Rattle.cavernlull.proofs.cavernlull_call_totalling.Goals as goal

pub returns-then-not-has_room : goal.returns-then-not-has_room
returns-then-not-has_room c =
    rw c.number.ensures (given_108 c.args.table.now (call_of c.args.tally.now c.args.start c.args.frame.now c.args.reply.now) c.args.total.now c.args.returns.now c.args.change.now c.has_room.result c.has_room.ensures (ap not c.if-not-has_room.true))

pub counted_call-requires : goal.counted_call-requires
counted_call-requires c = sym c.has_room.ensures ∙ c.if-not-has_room.false
