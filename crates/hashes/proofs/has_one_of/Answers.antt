-- `hashes::has_one_of` meets its contract: the closure is the test. Assumes nothing.
use mathlib.Core.Path.{◌∙◌}
use Rattle.std.proofs.Common.{rules, tests}
use Rattle.std.proofs.lemmas.Iterator.{YieldsList-from_slice}
use Rattle.std.proofs.lemmas.Iterator.Search.{any_from_yields_List}
use Rattle.hashes.proofs.Querying.{has, any_is}
use Rattle.hashes.proofs.has_one_of.Goals as goal

pub returns : goal.returns
returns c =
    let a = c.args in
    any_from_yields_List (has a.bytes.now a.count) _ _ _ c.any.ensures.ran (YieldsList-from_slice a.q.now cc) (λ x b q k. search (rules, tests))
    ∙ any_is (has a.bytes.now a.count) a.q.now
