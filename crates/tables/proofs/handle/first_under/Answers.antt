-- `tables::handle::first_under` meets its contract: the closure is the test. Assumes nothing.
use mathlib.Core.Path.{◌∙◌}
use Rattle.std.proofs.Common.{rules, tests}
use Rattle.std.proofs.lemmas.Iterator.{YieldsList-from_slice}
use Rattle.std.proofs.lemmas.Iterator.Search.{position_from_yields_List}
use Rattle.profile.specs.Bytes.{Bytes}
use Rattle.profile.specs.Slot.{named}
use Rattle.profile.specs.Table.{unpack}
use Rattle.tables.proofs.Chains.{position_map}
use Rattle.tables.proofs.handle.first_under.Goals as goal

pub returns : goal.returns
returns c =
    let h = c.args.h.now in
    let ss = c.args.slots.now in
    position_from_yields_List (λ (s : Bytes). named h (unpack s)) _ _ _ c.position.ensures.ran (YieldsList-from_slice ss cc) (λ x b q k. search (rules, tests))
    ∙ position_map (named h) unpack ss
