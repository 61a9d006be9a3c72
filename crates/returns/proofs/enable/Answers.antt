-- `returns::enable` meets its contract: refused as it was decided, kept as it is, or enabled again. Assumes nothing.
use mathlib.Core.Path.{ap, ◌∙◌}
use borrow.Author.Rules.{rules}
use Rattle.profile.specs.Table.{count_of, length_of}
use Rattle.octets.proofs.ByteBounds.{below_256}
use Rattle.decisions.proofs.Answers.{done_serves, kept_serves}
use Rattle.decisions.proofs.Deciding.{return_moves}
use Rattle.returns.proofs.Outcomes.{refuse_serves, not_disabled, enable_refused, installed_there, stays, lent_there, returned}
use Rattle.returns.proofs.enable.Goals as goal

pub slot_at-slot-requires : goal.slot_at-slot-requires
slot_at-slot-requires c = (installed_there _ _ _ (below_256 c.args.table.now (search rules)) c.requires _ _ c.record_to_enable.ensures _ c.in-Ok.is).0.has.inside

pub returns-in_default : goal.returns-in_default
returns-in_default c =
    let bytes = below_256 c.args.table.now (search rules) in
    kept_serves bytes c.requires (stays _ _ _ bytes c.requires _ _ c.record_to_enable.ensures _ c.in-Ok.is (not_disabled c.in-Ok.record.place (search rules))) (rw c.number.ensures.is at c.reply_served.ensures)

pub give_back-requires : goal.give_back-requires
give_back-requires c =
    let w = lent_there _ _ _ (below_256 c.args.table.now (search rules)) c.requires _ _ c.record_to_enable.ensures _ c.in-Ok.is c.in-Disabled.is in
    (w.has, w.place_is)

pub returns-in-Disabled : goal.returns-in-Disabled
returns-in-Disabled c =
    let bytes = below_256 c.args.table.now (search rules) in
    let w = lent_there _ _ _ bytes c.requires _ _ c.record_to_enable.ensures _ c.in-Ok.is c.in-Disabled.is in
    let there = c.slot_at-slot.ensures.0 ∙ w.lent in
    done_serves (returned _ _ _ bytes c.requires _ _ c.record_to_enable.ensures _ c.in-Ok.is c.in-Disabled.is) c.give_back.ensures (rw c.number.ensures.is at c.reply_served.ensures)
    (return_moves w _ (c.word_at-length.ensures ∙ ap length_of there) _ (c.count_of-stored.ensures ∙ ap count_of there) _ c.args.count)

pub returns-in-Err : goal.returns-in-Err
returns-in-Err c =
    refuse_serves _ (enable_refused _ _ _ (below_256 c.args.table.now (search rules)) c.requires _ _ c.record_to_enable.ensures _ c.in-Err.is) c.refuse.ensures
