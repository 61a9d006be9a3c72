-- `room::first_empty` meets its contract: the place of each slot says whether it is empty. Assumes nothing.
use Rattle.std.proofs.Common.{rules, tests}
use Rattle.std.proofs.lemmas.Iterator.{YieldsList-from_slice}
use Rattle.std.proofs.lemmas.Iterator.Search.{position_from_yields_List}
use Rattle.room.proofs.Searching.{blank, lowest_is}
use Rattle.room.proofs.first_empty.Goals as goal

pub returns : goal.returns
returns c =
    let ss = c.args.slots.now in
    lowest_is ss _ (position_from_yields_List blank _ _ _ c.position.ensures.ran (YieldsList-from_slice ss cc) (λ x b q k. search (rules, tests)))
