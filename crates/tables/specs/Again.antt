-- Whether the handle of a table's first slot stands in a later one.
use Rattle.std.specs.Prelude.{List, [], ◌∷◌, Bool, false}
use Rattle.profile.specs.Slot.{Slot, empty, taken, in_use}

unfoldable pub again : List Slot → Bool
again [] = false
again (empty ∷ t) = false
again (taken h e ∷ t) = in_use h t
