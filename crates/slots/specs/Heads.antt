-- The head of a slot, by the profile's numbers (PROFILE 2.2).
use Rattle.std.specs.Prelude.{◌≡◌}
use Rattle.profile.specs.Bytes.{Bytes}
use Rattle.profile.specs.Table.{place_of, hash_count_of, count_of, length_of}
use Rattle.slots.specs.declared.head.Head.{Head}
use Rattle.slots.specs.Places.{place_number}

pub record HeadOf (s : Bytes) (h : Head) : Type 0 where
  pub place_is : place_number h.place ≡ place_of s
  pub hashes_are : h.hashes ≡ hash_count_of s
  pub count_is : h.count ≡ count_of s
  pub length_is : h.length ≡ length_of s
