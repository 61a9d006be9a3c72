-- `removals::clear` meets its contract: refused as it was decided, or the slot cleared. Assumes nothing.
use mathlib.Core.Path.{sym, ap, ◌∙◌}
use borrow.Author.Rules.{rules}
use Rattle.profile.specs.Table.{length_of, slots_of}
use Rattle.octets.proofs.ByteBounds.{below_256}
use Rattle.decisions.proofs.Answers.{refused_serves, done_serves}
use Rattle.decisions.proofs.Deciding.{refuses, chosen, found_slot, found_has}
use Rattle.removals.proofs.Cleared.{clear_expects, cleared, clear_moves}
use Rattle.removals.proofs.clear.Goals as goal

pub slot_at-requires : goal.slot_at-requires
slot_at-requires g c = (found_slot _ _ _ c.in-Ok.ensures.found).0

pub clear_slot-requires : goal.clear_slot-requires
clear_slot-requires g c = found_has _ _ _ c.requires.ready _ c.in-Ok.ensures.found

pub returns-in-Ok : goal.returns-in-Ok
returns-in-Ok g c = λ places t.
    let at = chosen _ _ _ (below_256 c.args.table.now (search rules)) c.requires.ready _ places (sym (c.slot_under.ensures.decided places t) ∙ c.in-Ok.is) in
    done_serves (cleared places _ _ _ _ at) c.clear_slot.ensures c.reply_served.ensures
    (clear_moves places _ _ _ _ at _ (c.word_at-length.ensures ∙ ap length_of (c.slot_at.ensures.0 ∙ at.0.lent)))

pub returns-in-Err : goal.returns-in-Err
returns-in-Err g c = λ places t.
    let u = slots_of c.args.table.now in
    refused_serves _ (refuses c.args.h u places _ (clear_expects places u) _ (sym (c.slot_under.ensures.decided places t) ∙ c.in-Err.is)) c.reply_served-in-Err.ensures
