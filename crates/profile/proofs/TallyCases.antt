-- The worked cases of the tally hold: computed.
use mathlib.Core.Path.{refl, ap}
use Rattle.profile.specs.Bytes.{zeros, over}
use Rattle.profile.specs.Table.{unpack, image, pack, well_rest, well_slot, slot_bytes, slots_of, table_of, whole_slots, well_table}
use Rattle.profile.specs.Tally.{Tally, tally_of, work_out}
use Rattle.profile.specs.Frame.{frame}
use Rattle.profile.specs.Request.{read_request}
use Rattle.profile.specs.Agent.{first_empty_from, act, reply_frame, agent}
use Rattle.profile.specs.TallyCases
use Rattle.profile.proofs.Logic.{not_equal}

pub tallies_hold : TallyCases.Hold
unfolding TallyCases.slots TallyCases.tables TallyCases.workings tally_of work_out agent whole_slots zeros well_table slot_bytes well_rest well_slot slots_of unpack read_request over reply_frame frame first_empty_from act table_of pack image
tallies_hold =
    record {
      each = refl;
      added = refl;
      none = refl;
      together = refl;
      counted = refl;
      worked = refl;
      alike = refl;
      different = refl;
      carried = (refl, (refl, (refl, (refl, (refl, (refl, tt))))));
      numbers = refl;
      not_carried = λ k. not_equal 1 0 (λ t. t) (ap (λ (y : Tally). y.empty) k.1.0);
      other_first = λ k. not_equal 1 0 (λ t. t) (ap (λ (y : Tally). y.empty) k.0);
    }
