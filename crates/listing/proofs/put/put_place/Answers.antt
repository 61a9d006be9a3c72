-- `listing::put::put_place` meets its contract, place by place. Assumes nothing.
use Rattle.listing.specs.Written.{placed}
use Rattle.listing.proofs.put.put_place.Goals as goal

pub returns-in-Empty : goal.returns-in-Empty
unfolding placed
returns-in-Empty c = rw c.in-Empty.is c.word.ensures

pub returns-in-Reserved : goal.returns-in-Reserved
unfolding placed
returns-in-Reserved c = rw c.in-Reserved.is c.word-in-Reserved.ensures

pub returns-in-Enabled : goal.returns-in-Enabled
unfolding placed
returns-in-Enabled c = rw c.in-Enabled.is c.word-in-Enabled.ensures

pub returns-in-Disabled : goal.returns-in-Disabled
unfolding placed
returns-in-Disabled c = rw c.in-Disabled.is c.word-in-Disabled.ensures
