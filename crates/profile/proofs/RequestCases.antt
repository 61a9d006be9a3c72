-- The worked cases of requests hold: computed.
use mathlib.Core.Path.{refl}
use Rattle.profile.specs.Frame.{frame}
use Rattle.profile.specs.Request.{read_request, write_request}
use Rattle.profile.specs.RequestCases

pub requests_hold : RequestCases.Hold
unfolding RequestCases.requests RequestCases.no_frames RequestCases.heads RequestCases.kinds RequestCases.lengths
    RequestCases.verdicts RequestCases.field_tests RequestCases.cases read_request write_request frame
requests_hold = record { lengths_fit = refl; verdict_bit = refl; kept_bit = refl; zero_bits_lem = refl; zero_bits_6 = refl; versions = refl; kind_bits = refl; hash_counts = refl; some_hash = refl; read = refl; write = refl }
