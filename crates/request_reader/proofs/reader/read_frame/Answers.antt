-- `request_reader::reader::read_frame` meets its contract: the head refuses it, or its kind answers. Assumes nothing.
use mathlib.Core.Path.{ap, ◌∙◌}
use Prim.Native.Nat.{ℕ, ◌-◌}
use lib.ListN.{length}
use Rattle.codes.specs.Codes.{kind_meant}
use mathlib.Core.Option.{some}
use Rattle.request_reader.specs.Asking.{of_kind}
use Rattle.request_reader.proofs.Choices.{handed_on}
use Rattle.request_reader.proofs.reader.read_frame.Goals as goal

pub returns-in_err-kind : goal.returns-in_err-kind
returns-in_err-kind c = handed_on c.from_residual.ensures.1 ∙ c.in_err-kind.ensures

pub returns : goal.returns
returns c = c.read_kind.ensures ∙ ap (λ (v : ℕ). of_kind (some (kind_meant c.in_ok-kind.kind)) (length c.args.f.now - 4) v c.args.f.now) c.flag_of.ensures ∙ c.in_ok-kind.ensures.1
