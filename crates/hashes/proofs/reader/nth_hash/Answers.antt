-- `hashes::reader::nth_hash` meets its contract: `hash_at` counts in hashes of 20 bytes. Assumes nothing.
use Rattle.hashes.specs.Readers.{hash_at}
use Rattle.hashes.proofs.reader.nth_hash.Goals as goal

pub returns : goal.returns
unfolding hash_at
returns c = c.array_at.ensures
