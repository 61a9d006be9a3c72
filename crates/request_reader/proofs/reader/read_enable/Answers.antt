-- `request_reader::reader::read_enable` meets its contract: the tests of its body refuse it, or it is read. Assumes nothing.
use lib.Dec.{eqb}
use Rattle.request_reader.proofs.Choices.{handed_on, refused_too, goes_on}
use Rattle.request_reader.proofs.reader.read_enable.Goals as goal

pub returns-in_err-fits : goal.returns-in_err-fits
returns-in_err-fits c = rw (← c.body_length.ensures) (refused_too (eqb c.body_length.result 12) c.args.verdict c.fits.ensures c.in_err-fits.was (handed_on c.from_residual.ensures.1) _)

pub returns : goal.returns
returns c = rw (← c.body_length.ensures) (goes_on (eqb c.body_length.result 12) c.args.verdict c.fits.ensures c.in_ok-fits.was c.enable_fields.ensures)
