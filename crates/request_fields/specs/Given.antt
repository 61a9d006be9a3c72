-- The fields that the request writer is given as the profile has them, and those that a kind allows.
use Rattle.std.specs.Prelude.{Bool, false}
use Rattle.std.proofs.Math.Option.{Option, none, some}
use Rattle.profile.specs.Device as device
use Rattle.profile.specs.Device.{fields_with, kind_holds}
use Rattle.profile.specs.Frame.{Kind}
use Rattle.request_fields.specs.declared.Fields.{Fields}

abbrev pub fields_of : Fields → device.Fields
fields_of f = fields_with f.handle f.new f.key f.room f.count f.kept f.limit f.hashes.now f.payload.now

-- the kind's own tests, which no other number passes
abbrev pub kind_allows : Option Kind → device.Fields → Bool
kind_allows none f = false
kind_allows (some k) f = kind_holds k f
