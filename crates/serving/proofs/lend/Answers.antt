-- `serving::lend` meets its contract: what is lent is the profile's answer. Assumes nothing.
use Rattle.serving.proofs.Served.{lent_as}
use Rattle.serving.proofs.lend.Goals as goal

pub returns : goal.returns
returns c = lent_as _ _ _ c.lend.ensures
