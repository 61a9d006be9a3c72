-- The worked cases of the request writer hold: computed.
use mathlib.Core.Path.{refl}
use Rattle.profile.specs.Bytes.{over}
use Rattle.profile.specs.Frame.{frame}
use Rattle.profile.specs.Request.{write_request}
use Rattle.profile.specs.Device.{write}
use Rattle.profile.specs.WriterCases

pub writer_hold : WriterCases.Hold
unfolding WriterCases.frames WriterCases.refusals WriterCases.bounds WriterCases.lacking WriterCases.cases write write_request frame over
writer_hold = refl
