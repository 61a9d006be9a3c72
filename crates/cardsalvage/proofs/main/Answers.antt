use mathlib.Core.Path.{sym}
use lib.Seq.{length-take-le}
use Rattle.reports.proofs.Whole.{text_inside}
use Rattle.cardsalvage.proofs.main.Goals as goal

-- the report ends within its buffer
pub slice_bounds-text-end : goal.slice_bounds-text-end
slice_bounds-text-end c = text_inside c.salvage_in_words-printed.ensures

pub slice_bounds-write_all-end-2 : goal.slice_bounds-write_all-end-2
slice_bounds-write_all-end-2 c =
    let p = c.salvage_in_words-printed in
    sym (length-take-le p.result.text p.new.text (text_inside p.ensures))
