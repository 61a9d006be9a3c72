-- `request_reader::reader::read_one` meets its contract: the tests of its body refuse it, or it is read. Assumes nothing.
use mathlib.Core.Path.{ap}
use Rattle.std.specs.Prelude.{Ok}
use lib.Dec.{eqb}
use Rattle.request_reader.proofs.Choices.{handed_on, refused_too, goes_on}
use Rattle.request_reader.proofs.reader.read_one.Goals as goal

pub returns-in_err-fits : goal.returns-in_err-fits
returns-in_err-fits c = rw (← c.body_length.ensures) (refused_too (eqb c.body_length.result 10) c.args.verdict c.fits.ensures c.in_err-fits.was (handed_on c.from_residual.ensures.1) _)

pub returns : goal.returns
returns c = rw (← c.body_length.ensures) (goes_on (eqb c.body_length.result 10) c.args.verdict c.fits.ensures c.in_ok-fits.was (ap Ok c.with_handle.ensures))
