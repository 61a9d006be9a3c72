-- `hashes::is_hash` meets its contract: all of the hash that was read is compared. Assumes nothing.
use borrow.Author.Rules.{rules}
use Rattle.hashes.proofs.Querying.{hash_compared}
use Rattle.hashes.proofs.is_hash.Goals as goal

pub returns : goal.returns
returns c = hash_compared c.args.asked.now _ _ c.told-asked (search rules) c.hash_of.ensures c.same_from.ensures
