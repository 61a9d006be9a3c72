-- `request_reader::reader::read_install` meets its contract: the tests of its body refuse it, or it is read. Assumes nothing.
use lib.Dec.{leb}
use Rattle.request_reader.proofs.Choices.{handed_on, refused_too, goes_on}
use Rattle.request_reader.proofs.reader.read_install.Goals as goal

pub returns-in_err-fits : goal.returns-in_err-fits
returns-in_err-fits c = rw (← c.body_length.ensures) (refused_too (leb 30 c.body_length.result) c.args.verdict c.fits.ensures c.in_err-fits.was (handed_on c.from_residual.ensures.1) _)

pub returns : goal.returns
returns c = rw c.body_length.ensures at (goes_on (leb 30 c.body_length.result) c.args.verdict c.fits.ensures c.in_ok-fits.was c.install_fields.ensures)
