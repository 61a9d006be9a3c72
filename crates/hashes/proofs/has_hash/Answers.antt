-- `hashes::has_hash` meets its contract: the closure is the test of one hash. Assumes nothing.
use mathlib.Core.Path.{◌∙◌}
use native.Mathlib.Omega.{arith}
use Rattle.std.proofs.Common.{rules, tests}
use Rattle.std.proofs.lemmas.Iterator.{YieldsList-from_range}
use Rattle.std.proofs.lemmas.Iterator.Search.{any_from_yields_List}
use Rattle.hashes.proofs.Querying.{stands_at, any_from}
use Rattle.hashes.proofs.has_hash.Goals as goal

pub returns : goal.returns
returns c =
    let a = c.args in
    any_from_yields_List (stands_at a.bytes.now a.asked.now) _ _ _ c.any.ensures.ran (YieldsList-from_range 0 a.count a.count (cc) (omega arith))
    (λ x b q k. search (rules, tests))
    ∙ any_from a.bytes.now a.asked.now a.count
