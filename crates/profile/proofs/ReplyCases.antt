-- The worked cases of replies hold: computed.
use mathlib.Core.Path.{refl}
use Rattle.profile.specs.Frame.{frame}
use Rattle.profile.specs.Agent.{reply_frame}
use Rattle.profile.specs.Device.{read_reply}
use Rattle.profile.specs.ReplyCases

pub replies_hold : ReplyCases.Hold
unfolding ReplyCases.heads ReplyCases.shapes ReplyCases.rights ReplyCases.answers ReplyCases.cases read_reply reply_frame frame
replies_hold = record { read = refl; send = refl; back = refl }
