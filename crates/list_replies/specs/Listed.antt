-- A list of handles as it grows in a buffer.
use Rattle.std.specs.Prelude.{ℕ, ◌+◌, ◌*◌, List, [], ◌∷◌, ◌++◌, Bool, if◌then◌else◌}
use Rattle.profile.specs.Bytes.{Bytes, joined}
use Rattle.profile.specs.Sizes.{handle_size}
use Rattle.buffers.specs.Over.{over_at}
use Rattle.reply_writer.specs.Written.{head_of}

-- the buffer b with handles, the first at offset 5
unfoldable pub holding : List Bytes → Bytes → Bytes
holding hs b = over_at 5 (joined hs) b

-- what stands in front of n handles: the head, and one bit that says "more" above seven zero bits
unfoldable pub list_start : ℕ → Bool → Bytes
list_start n more = head_of 8 0 (1 + handle_size * n) ++ ((if more then 128 else 0) ∷ [])
