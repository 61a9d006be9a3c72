-- `reply_reader::shape::is_right` meets its contract. Assumes nothing.
use mathlib.Core.Path.{◌∙◌}
use Rattle.reply_reader.proofs.Shapes.{right_short, right_tests}
use Rattle.reply_reader.proofs.shape.is_right.Goals as goal

pub returns-then-f-lt24 : goal.returns-then-f-lt24
returns-then-f-lt24 c = right_short c.args.f.now c.if-f-lt24.true

pub returns : goal.returns
returns c = right_tests c.args.f.now c.if-f-lt24.false (c.from-hashes.ensures ∙ c.hash_count_of.ensures) c.hash_count_rest-rest.ensures c.says_count-counted.ensures
