-- `room::first_empty_from` meets its contract: from the start on, and then from slot 0. Assumes nothing.
use Rattle.room.proofs.Searching.{goes_on, goes_round}
use Rattle.room.proofs.first_empty_from.Goals as goal

pub returns-in-Some : goal.returns-in-Some
returns-in-Some c =
    let found = rw c.in-Some.is at c.first_empty.ensures in
    goes_on c.args.t.now c.args.start c.requires _ c.slots_in-slots.ensures.0 _ _ c.split_at.ensures.front c.split_at.ensures.back c.in-Some.k found.0 found.1

pub returns-in-None : goal.returns-in-None
returns-in-None c =
    let none = rw c.in-None.is at c.first_empty.ensures in
    goes_round c.args.t.now c.args.start c.requires _ c.slots_in-slots.ensures.0 _ _ c.split_at.ensures.front c.split_at.ensures.back none _ c.first_empty-in-None.ensures
