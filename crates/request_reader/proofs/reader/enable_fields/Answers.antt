-- `request_reader::reader::enable_fields` meets its contract: the bit and the number say a count, or not. Assumes nothing.
use mathlib.Core.Bool.{not}
use mathlib.Core.Path.{refl, ap}
use Rattle.std.specs.Prelude.{Ok}
use Rattle.request_reader.proofs.Choices.{no_count_said, count_said}
use Rattle.request_reader.specs.Asking.{of_enable}
use Rattle.request_reader.proofs.reader.enable_fields.Goals as goal

pub returns-then-not-count_holds : goal.returns-then-not-count_holds
unfolding of_enable
returns-then-not-count_holds c = rw (no_count_said c.kept_in-kept.ensures c.word_at-returned.ensures c.count_holds.ensures (ap not c.if-not-count_holds.true)) refl

pub returns : goal.returns
unfolding of_enable
returns c = rw (count_said c.kept_in-kept.ensures c.word_at-returned.ensures c.count_holds.ensures (ap not c.if-not-count_holds.false), ← c.kept_in-kept.ensures, ← c.word_at-returned.ensures, ← c.count_with-count.ensures) (ap Ok c.with_handle.ensures)
