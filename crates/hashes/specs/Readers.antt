-- The hashes that stand one after another in a slot's hash bytes, and the reader that holds these bytes and a position.
use Rattle.std.specs.Prelude.{ℕ, ◌+◌, ◌*◌, ◌≤◌, length}
use Rattle.std.specs.Borrow.{Bor}
use Rattle.profile.specs.Bytes.{Bytes, part}
use Rattle.profile.specs.Sizes.{hash_size}
use Rattle.hashes.specs.declared.reader.HashReader.{HashReader}

-- the hash at a position, and that one stands there: positions are counted in hashes, from 0
unfoldable pub hash_at : ℕ → Bytes → Bytes
hash_at at bytes = part (hash_size * at) hash_size bytes

abbrev pub HashStands : ℕ → Bytes → Type 0
HashStands at bytes = hash_size * at + hash_size ≤ length bytes

-- the reader of these bytes at this position
abbrev pub reader_at : Bor Bytes → ℕ → HashReader
reader_at bytes at = record { bytes = bytes; at = at }

-- the hash at the reader's position, and that one stands there
abbrev pub hash_read : HashReader → Bytes
hash_read r = hash_at r.at r.bytes.now

abbrev pub Reads : HashReader → Type 0
Reads r = HashStands r.at r.bytes.now
