-- `tables::lookup::look_up` meets its contract: the first slot under the handle, and the place of its record. Assumes nothing.
use mathlib.Core.Path.{◌∙◌}
use Rattle.tables.proofs.LookingUp.{looks_absent, looks_at}
use Rattle.tables.proofs.lookup.look_up.Goals as goal

pub returns-in_err-at : goal.returns-in_err-at
returns-in_err-at c = c.from_residual.ensures ∙ looks_absent c.args.t.now c.args.h _ c.slots_in-slots.ensures.0 _ c.first_under.ensures c.in_err-at.was

pub returns : goal.returns
returns c = looks_at c.args.t.now c.args.h _ c.slots_in-slots.ensures.0 _ c.first_under.ensures c.in_ok-at.at c.in_ok-at.was c.place_of.result c.place_of.ensures
