-- `tables::table::all_distinct` meets its contract: the closure is the test of one slot against those after it. Assumes nothing.
use mathlib.Core.Path.{◌∙◌}
use native.Mathlib.Omega.{arith}
use lib.ListN.{length}
use Rattle.std.proofs.Common.{rules, tests}
use Rattle.std.proofs.lemmas.Iterator.{YieldsList-from_range}
use Rattle.std.proofs.lemmas.Iterator.Search.{all_from_yields_List}
use Rattle.tables.proofs.Turns.{stands_alone, distinct_from}
use Rattle.tables.proofs.table.all_distinct.Goals as goal

pub returns : goal.returns
returns c =
    let ss = c.args.slots.now in
    all_from_yields_List (stands_alone ss) _ _ _ c.all.ensures.ran (YieldsList-from_range 0 (length ss) (length ss) (cc) (omega arith)) (λ x b q k. search (rules, tests))
    ∙ distinct_from ss (length ss) 0 (omega arith)
