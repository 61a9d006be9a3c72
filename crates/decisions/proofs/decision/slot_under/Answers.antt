-- `decisions::decision::slot_under` meets its contract, by what the look-up answers and the place of what it found. Assumes nothing.
use mathlib.Core.Path.{sym, ◌∙◌}
use Rattle.std.proofs.lemmas.Result.{err_from_is_err_and}
use Rattle.decisions.proofs.Deciding.{none_decided, found_record, taken_decided, other_decided}
use Rattle.decisions.proofs.decision.slot_under.Goals as goal

pub returns-in_err-record-clause-decided : goal.returns-in_err-record-clause-decided
returns-in_err-record-clause-decided g c = λ places t.
    let p = err_from_is_err_and c.from_residual.result c.from_residual.ensures.1 in
    rw (p.1, p.2, ← c.look_up.ensures) (none_decided _ _ c.ok_or.ensures.value places _ c.in_err-record.was)

pub returns-then-takes : goal.returns-then-takes
returns-then-takes g c = record {
  found = sym c.look_up.ensures ∙ found_record _ _ c.ok_or.ensures.value _ c.in_ok-record.was;
  decided = λ places t. rw (← c.look_up.ensures) (taken_decided _ _ c.ok_or.ensures.value places _ c.in_ok-record.was _ (t _ _ c.takes.ensures) c.if-takes.true);
}

pub returns-clause-decided : goal.returns-clause-decided
returns-clause-decided g c = λ places t. rw (← c.look_up.ensures) (other_decided _ _ c.ok_or.ensures.value places _ c.in_ok-record.was _ (t _ _ c.takes.ensures) c.if-takes.false)
