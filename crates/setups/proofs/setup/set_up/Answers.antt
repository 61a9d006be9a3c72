-- `setups::setup::set_up` meets its contract: refused as it was decided, or the slot reserved. Assumes nothing.
use Rattle.decisions.proofs.Answers.{refused_serves, done_serves}
use Rattle.setups.proofs.Outcomes.{free_slot, setup_moves}
use Rattle.setups.proofs.setup.set_up.Goals as goal

pub store_reservation-requires : goal.store_reservation-requires
store_reservation-requires c = free_slot _ _ c.args.start c.requires.1 _ _ c.in-Ok.ensures _ c.requires.0

pub returns-in-Ok : goal.returns-in-Ok
returns-in-Ok c =
    let w = c.in-Ok.ensures in
    done_serves w.answer c.store_reservation.ensures (rw c.number.ensures.is at c.reply_served.ensures) (setup_moves _ _ c.args.start c.requires.1 _ _ w)

pub returns-in-Err : goal.returns-in-Err
returns-in-Err c = refused_serves _ c.in-Err.ensures (rw c.number-in-Err.ensures.is at c.reply_served-in-Err.ensures)
