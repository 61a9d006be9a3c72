-- `request_reader::reader::read_request` meets its contract: the answer means what the profile reads. Assumes nothing.
use Rattle.request_reader.proofs.Meaning.{answers}
use Rattle.request_reader.proofs.reader.read_request.Goals as goal

pub returns : goal.returns
returns c = answers c.args.f.now c.read_frame.result c.read_frame.ensures
