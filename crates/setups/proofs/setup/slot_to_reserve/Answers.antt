-- `setups::setup::slot_to_reserve` meets its contract, test by test. Assumes nothing.
use mathlib.Core.Path.{sym, ◌∙◌}
use Rattle.setups.proofs.Outcomes.{no_length, handle_used, too_long, reserves_first}
use Rattle.setups.proofs.setup.slot_to_reserve.Goals as goal

pub returns-then-n-eq0 : goal.returns-then-n-eq0
returns-then-n-eq0 c = no_length _ _ _ _ c.if-n-eq0.true

pub returns-then-in_use : goal.returns-then-in_use
returns-then-in_use c = handle_used _ _ _ _ c.if-n-eq0.false (sym c.in_use.ensures ∙ c.if-in_use.true)

pub returns-then-n-gt-MOST_LENGTH : goal.returns-then-n-gt-MOST_LENGTH
returns-then-n-gt-MOST_LENGTH c = too_long _ _ _ _ c.if-n-eq0.false (sym c.in_use.ensures ∙ c.if-in_use.false) c.if-n-gt-MOST_LENGTH.true

pub returns : goal.returns
returns c = rw c.ok_or.ensures.value
    (reserves_first _ _ c.args.start c.args.n c.if-n-eq0.false (sym c.in_use.ensures ∙ c.if-in_use.false) c.if-n-gt-MOST_LENGTH.false _ c.first_empty_from.ensures)
