-- The worked cases of totals hold: computed.
use mathlib.Core.Path.{refl}
use native.Mathlib.Omega.{arith}
use Rattle.profile.specs.Bytes.{zeros, over}
use Rattle.profile.specs.Table.{unpack, image, pack, well_rest, well_slot, slot_bytes, slots_of, table_of, whole_slots, well_table}
use Rattle.profile.specs.Tally.{tally_of}
use Rattle.profile.specs.Frame.{frame}
use Rattle.profile.specs.Request.{read_request}
use Rattle.profile.specs.Agent.{first_empty_from, act, reply_frame, agent}
use Rattle.profile.specs.Total.{return_of, totalling}
use Rattle.profile.specs.CaseBytes.{H2}
use Rattle.profile.specs.Cases.{enable as back}
use Rattle.profile.specs.TotalCases
use Rattle.profile.proofs.Logic.{not_over}
use Rattle.profile.proofs.Strings.{bytes_256}

pub totals_hold_lem : TotalCases.Hold
unfolding TotalCases.cases TotalCases.others TotalCases.firsts TotalCases.bounds TotalCases.beyond TotalCases.tellings return_of totalling tally_of agent whole_slots zeros well_table slot_bytes well_rest well_slot slots_of unpack read_request over reply_frame frame first_empty_from act table_of pack image
totals_hold_lem =
    record {
      called = refl;
      nothing_returned = refl;
      comes_first = refl;
      hold = refl;
      not_hold = refl;
      by_slots = refl;
      by_others = refl;
      by_status = refl;
      told = refl;
      summed = refl;
      many = refl;
      then_totals = refl;
      then_table = refl;
      then_made = refl;
      full_totals = refl;
      full_table = refl;
      none_made = refl;
      in_bytes = (bytes_256 (back H2 "00 00") tt, (bytes_256 (back H2 "00 00") tt, (bytes_256 TotalCases.lending tt, tt)));
      at_least = record { few = omega arith; bound = omega arith };
      not_many = λ w. not_over 30001 30000 (λ t. t) w.few;
      not_above = λ w. not_over 65536 65535 (λ t. t) w.bound;
      not_below = λ w. not_over 65536 65535 (λ t. t) w.bound;
    }
