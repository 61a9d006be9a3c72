-- `serving::answer_read` meets its contract: the frame is refused, or its request is served. Assumes nothing.
use mathlib.Core.Path.{sym, ap, ◌∙◌}
use Rattle.std.specs.Result.{result_copied}
use Rattle.std.proofs.lemmas.Result.{err_from_is_err_and}
use Rattle.serving.proofs.Served.{why_means_lem, refused_obeys, obeys}
use Rattle.serving.proofs.answer_read.Goals as goal

pub refuse-requires : goal.refuse-requires
refuse-requires c = (why_means_lem c.args.frame.now c.args.read.now c.requires.2 _ (sym c.as_ref.ensures.value ∙ ap result_copied c.unwrap_err-why.ensures), c.requires.0.room)

pub returns-in_err-refuse : goal.returns-in_err-refuse
returns-in_err-refuse c =
    let e = why_means_lem c.args.frame.now c.args.read.now c.requires.2 _ (sym c.as_ref.ensures.value ∙ ap result_copied c.unwrap_err-why.ensures) in
    let p = err_from_is_err_and c.from_residual.result c.from_residual.ensures.1 in
    rw (p.1, p.2) (rw c.in_err-refuse.was at (refused_obeys _ _ _ _ _ c.refuse.ensures e c.args.table.now c.args.start))

pub returns-in_default : goal.returns-in_default
returns-in_default c =
    let e = why_means_lem c.args.frame.now c.args.read.now c.requires.2 _ (sym c.as_ref.ensures.value ∙ ap result_copied c.unwrap_err-why.ensures) in
    rw c.in_ok-refuse.was at (refused_obeys _ _ _ _ _ c.refuse.ensures e c.args.table.now c.args.start)

pub returns : goal.returns
returns c = obeys (rw c.in-Ok.is at c.requires.2) c.args.start c.requires.0.whole c.requires.0.well c.requires.1 c.serve.ensures
