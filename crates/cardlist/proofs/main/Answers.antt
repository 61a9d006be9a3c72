use mathlib.Core.Path.{sym}
use lib.Seq.{length-take-le}
use Rattle.listing.proofs.Whole.{listing_inside}
use Rattle.cardlist.proofs.main.Goals as goal

-- the listing ends within its buffer
pub slice_bounds-text-end : goal.slice_bounds-text-end
slice_bounds-text-end c = listing_inside _ _ _ _ c.list-end.ensures.0 c.list-end.ensures.1

pub slice_bounds-write_all-end : goal.slice_bounds-write_all-end
slice_bounds-write_all-end c =
    sym (length-take-le c.list-end.result c.list-end.new.out (listing_inside _ _ _ _ c.list-end.ensures.0 c.list-end.ensures.1))
