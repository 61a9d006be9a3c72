-- The worked cases of the listing hold: computed.
use mathlib.Core.Path.{refl}
use Rattle.profile.specs.Bytes.{zeros}
use Rattle.profile.specs.Table.{unpack, well_rest, well_slot, slot_bytes, slots_of, whole_slots, well_table}
use Rattle.profile.specs.Listing.{listing}
use Rattle.profile.specs.ListingCases

pub listings_hold : ListingCases.Hold
unfolding ListingCases.cases ListingCases.numbers listing whole_slots well_table slot_bytes well_rest well_slot slots_of unpack zeros
listings_hold = record { printed = refl; decimals = refl; later = refl }
