-- `queries::info` meets its contract: refused as it was decided, or the reply from the slot. Assumes nothing.
use mathlib.Core.Path.{sym, ◌∙◌}
use native.Mathlib.Omega.{arith}
use borrow.Author.Rules.{rules}
use Rattle.octets.proofs.ByteBounds.{below_256}
use Rattle.decisions.specs.Decisions.{lendable}
use Rattle.decisions.proofs.Deciding.{found_slot, chosen_enabled, fits_lent}
use Rattle.queries.proofs.Informed.{info_refused, info_done}
use Rattle.queries.proofs.info.Goals as goal

pub slot_at-requires : goal.slot_at-requires
slot_at-requires c = (found_slot _ _ _ c.in-Ok.ensures.found).0

pub reply_info-requires : goal.reply_info-requires
reply_info-requires c =
    let d = c.slot_under.ensures.decided lendable (λ q b e. search rules) in
    let w = chosen_enabled _ _ _ (below_256 c.args.table.now (search rules)) c.requires _ (sym d ∙ c.in-Ok.is) in
    (omega (arith, c.requires.room), (fits_lent _ _ (c.slot_at.ensures.0 ∙ w.lent) w.fits).long.1)

pub returns-in-Ok : goal.returns-in-Ok
returns-in-Ok c =
    let d = c.slot_under.ensures.decided lendable (λ q b e. search rules) in
    let w = chosen_enabled _ _ _ (below_256 c.args.table.now (search rules)) c.requires _ (sym d ∙ c.in-Ok.is) in
    info_done _ _ _ _ w _ c.slot_at.ensures.0 _ c.reply_info.ensures

pub returns-in-Err : goal.returns-in-Err
returns-in-Err c =
    let d = c.slot_under.ensures.decided lendable (λ q b e. search rules) in
    info_refused _ _ c.args.h _ (sym d ∙ c.in-Err.is) _ (rw c.number.ensures.is at c.reply_served.ensures)
