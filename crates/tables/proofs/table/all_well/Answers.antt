-- `tables::table::all_well` meets its contract: the closure is the test. Assumes nothing.
use mathlib.Core.Path.{◌∙◌}
use Rattle.std.proofs.Common.{rules, tests}
use Rattle.std.proofs.lemmas.Iterator.{YieldsList-from_slice}
use Rattle.std.proofs.lemmas.Iterator.Search.{all_from_yields_List}
use Rattle.slots.specs.Rules.{well_by}
use Rattle.tables.proofs.Chains.{all_is}
use Rattle.tables.proofs.table.all_well.Goals as goal

pub returns : goal.returns
returns c =
    let f = well_by c.args.rules in
    let ss = c.args.slots.now in
    all_from_yields_List f _ _ _ c.all.ensures.ran (YieldsList-from_slice ss cc) (λ x b q k. search (rules, tests)) ∙ all_is f ss
