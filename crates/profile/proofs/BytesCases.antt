-- The worked cases of byte strings hold: computed.
use mathlib.Core.Path.{refl}
use Rattle.profile.specs.Bytes.{zeros, over}
use Rattle.profile.specs.BytesCases

pub bytes_hold : BytesCases.Hold
unfolding zeros over
bytes_hold =
    record {
      spelled = refl;
      hexed = refl;
      framed = refl;
      replaced = refl;
      chosen = refl;
      byted = refl;
      parted = refl;
      worded = refl;
      bytes_of_words = refl;
      zeroed = refl;
      zero_tests = refl;
      sames = refl;
      ranged = refl;
      overed = refl;
      alls = refl;
      anys = refl;
      joins = refl;
      cuts = refl;
    }
