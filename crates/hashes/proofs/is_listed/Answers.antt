-- `hashes::is_listed` meets its contract: an enabled slot by the query, any other not. Assumes nothing.
use mathlib.Core.Path.{sym, ◌∙◌}
use mathlib.Core.Bool.{true≢false}
use borrow.Author.Tests.{eqb-true, eqb-false}
use Rattle.hashes.proofs.Querying.{not_listed, listed_all, listed_some}
use Rattle.hashes.proofs.is_listed.Goals.{in-Enabled, in_default}
use Rattle.hashes.proofs.is_listed.Goals as goal

pub returns-then-is_empty : goal.returns-then-is_empty
returns-then-is_empty c =
    elim c.match-matches.branch [
      | in-Enabled w ↦ rw c.if-is_empty.true (listed_all c.args.s.now _ c.place_of.ensures w.in-Enabled.is _ (eqb-true _ _ (sym c.is_empty.ensures ∙ c.if-is_empty.true)))
      | in_default w ↦ absurd (true≢false (sym c.if-matches.true ∙ w.matches-is))
    ]

pub returns-else-is_empty : goal.returns-else-is_empty
returns-else-is_empty c =
    elim c.match-matches.branch [
      | in-Enabled w ↦ listed_some c.args.s.now _ c.place_of.ensures w.in-Enabled.is _ _ (eqb-false _ _ (sym c.is_empty.ensures ∙ c.if-is_empty.false)) c.has_some.ensures
      | in_default w ↦ absurd (true≢false (sym c.if-matches.true ∙ w.matches-is))
    ]

pub returns-else-matches : goal.returns-else-matches
returns-else-matches c =
    elim c.match-matches.branch [
      | in-Enabled w ↦ absurd (true≢false (sym w.matches-is ∙ c.if-matches.false))
      | in_default w ↦ rw w.matches-is (not_listed c.args.s.now _ c.place_of.ensures _ w.in_default.not-Enabled)
    ]
