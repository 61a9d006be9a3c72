-- The worked cases of the history hold: computed.
use mathlib.Core.Path.{refl, ap}
use lib.ListN.{length}
use Rattle.profile.specs.Bytes.{zeros, over}
use Rattle.profile.specs.Table.{unpack, image, pack, well_rest, well_slot, slot_bytes, slots_of, table_of, whole_slots, well_table}
use Rattle.profile.specs.Tally.{tally_of}
use Rattle.profile.specs.Frame.{frame}
use Rattle.profile.specs.Request.{read_request}
use Rattle.profile.specs.Agent.{first_empty_from, act, reply_frame, agent}
use Rattle.profile.specs.CaseBytes.{H1}
use Rattle.profile.specs.HistoryCases
use Rattle.profile.proofs.Logic.{not_equal, not_over}

pub histories_hold : HistoryCases.Hold
unfolding HistoryCases.tellings agent whole_slots zeros well_table slot_bytes well_rest well_slot slots_of unpack read_request over reply_frame frame first_empty_from act table_of pack image tally_of
histories_hold =
    record {
      each = refl;
      ran = refl;
      left = refl;
      tells = refl;
      goes_on = refl;
      then_told = refl;
      blank_at_first = refl;
      numbered = refl;
      with_number = refl;
      with_status = refl;
      not_asked = refl;
      no_frame_lem = refl;
      by_number = refl;
      under_run = refl;
      under_ledger_lem = refl;
      under_slots_lem = refl;
      not_missing = λ a. not_equal 0 1 (λ t. t) (ap length (a.each H1));
      not_more = λ a. not_equal 1 0 (λ t. t) (ap length (a.each H1));
      not_twice = λ a. not_over 2 1 (λ t. t) (a.once H1);
    }
