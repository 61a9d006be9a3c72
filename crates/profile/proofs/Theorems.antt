-- All theorems of the profile, as the page specs/Theorems.antt states them.
use mathlib.Core.Bool.{true}
use Prim.Native.Nat.{◌≤◌}
use mathlib.Core.Path.{◌≡◌, ap}
use mathlib.Core.List.{List}
use lib.ListN.{length}
use Rattle.profile.specs.Slot.{Slot, distinct, TableFits}
use Rattle.profile.specs.Total.{Totalled}
use Rattle.profile.specs.Theorems.{Packs, Theorems}
use Rattle.profile.proofs.Strings.{bytes_256}
use Rattle.profile.proofs.Pack.{unpack_pack}
use Rattle.profile.proofs.Unpack.{pack_unpack}
use Rattle.profile.proofs.Tables.{slots_table, table_slots, well_table_lem, whole_table}
use Rattle.profile.proofs.WellFormed.{table_fits, table_distinct}
use Rattle.profile.proofs.Turning.{turns, turn_refuses, turned_once}
use Rattle.profile.proofs.Salvage.{salvages, salvage_refuses, nothing_damaged, salvaged_twice}
use Rattle.profile.proofs.OneSlot.{one_slot, other_slots}
use Rattle.profile.proofs.Lookup.{under_once}
use Rattle.profile.proofs.FirstEmpty.{first_empty, first_only, none_empty, none_alike, from_0}
use Rattle.profile.proofs.Frames.{reads}
use Rattle.profile.proofs.Requests.{read_fits, read_write}
use Rattle.profile.proofs.Writer.{written_reads}
use Rattle.profile.proofs.WrittenAgain.{written_again}
use Rattle.profile.proofs.Replies.{replies_read}
use Rattle.profile.proofs.Statuses.{statuses, never_8, never_read_8}
use Rattle.profile.proofs.AnyTable.{stays_well}
use Rattle.profile.proofs.Laws.{apart, apart_distinct, refuses, outside_105, twice_103, found_is, sets_first, sets_only}
use Rattle.profile.proofs.ListLaws.{lists_exactly, lists_only}
use Rattle.profile.proofs.BytesCases.{bytes_hold}
use Rattle.profile.proofs.TableCases.{tables_hold}
use Rattle.profile.proofs.TurningCases.{turnings_hold}
use Rattle.profile.proofs.RequestCases.{requests_hold}
use Rattle.profile.proofs.ActCases.{acts_hold}
use Rattle.profile.proofs.Cases.{cases_hold}
use Rattle.profile.proofs.WriterCases.{writer_hold}
use Rattle.profile.proofs.ReplyCases.{replies_hold}
use Rattle.profile.proofs.ListingCases.{listings_hold}
use Rattle.profile.proofs.HistoryCases.{histories_hold}
use Rattle.profile.proofs.SizeCases.{sizes_hold}
use Rattle.profile.proofs.RisingCases.{rises_hold}
use Rattle.profile.proofs.DemandCases.{demands_hold}
use Rattle.profile.proofs.StartCases.{starts_hold}
use Rattle.profile.proofs.TallyCases.{tallies_hold}
use Rattle.profile.proofs.UnlistedCases.{unlisted_hold}
use Rattle.profile.proofs.Unlisted.{in_use_lem, when_lent, none_comes, all_have_one, by_course}
use Rattle.profile.proofs.SalvageCases.{salvages_hold}
use Rattle.profile.proofs.TotalCases.{totals_hold_lem}
use Rattle.profile.proofs.Total.{change_within, refused_return, refused_108, called, gives_108, change_unread, stays_within}
use Rattle.profile.proofs.Totals.{totals_told, totals_blank}
use Rattle.profile.proofs.Changes.{never_above, total_not_above}
use Rattle.profile.proofs.CountOrder.{raise_means}
use Rattle.profile.proofs.Raising.{refused_9, only_9, returned_anyway}
use Rattle.profile.proofs.SlotCounts.{slot_never_rises}
use Rattle.profile.proofs.Demand3.{demand_from, blank_ledger_lem, demand_3}
use Rattle.profile.proofs.Restart.{after_salvage, after_turning}
use Rattle.profile.proofs.TallyLaws.{counts_all, tally_slot}
use Rattle.profile.proofs.Tallies.{differs_106, turn_tally, tally_afresh, tally_stays, carries_on, never_106}
use Rattle.profile.proofs.Starts.{only_setups, same_call, same_run, same_ledger}

packs : (t : List Slot) → TableFits t → distinct t ≡ true → 1 ≤ length t → length t ≤ 15 → Packs t
packs t f d some few =
    record {
      whole = whole_table t f some few;
      well = well_table_lem t f (λ h. under_once h t d);
      again = slots_table t f;
    }

pub theorems : Theorems
theorems =
    record {
      bytes_256 = bytes_256;
      unpack_pack = unpack_pack;
      pack_unpack = pack_unpack;
      unpacks = λ table y whole well. record { fit = table_fits table whole well; apart = table_distinct table whole well; again = table_slots table y whole well };
      packs = packs;
      apart = λ t. (apart t, apart_distinct t);
      turns = turns;
      turn_refuses = turn_refuses;
      turned_once = turned_once;
      salvages = λ table report whole room. salvages table whole report room;
      salvage_refuses = salvage_refuses;
      nothing_damaged = λ table report whole well room. nothing_damaged table whole well report room;
      salvaged_twice = salvaged_twice;
      one_slot = λ table report i s whole well room long. one_slot table i s whole long well report room;
      other_slots = λ table report i s whole well room long. other_slots table i s whole long well report room;
      read_fits = λ f q e. read_fits f q (rw e at (reads f));
      read_write = read_write;
      written_reads = written_reads;
      written_again = written_again;
      replies_read = replies_read;
      refuses = refuses;
      never_8 = never_8;
      statuses = statuses;
      never_read_8 = never_read_8;
      outside_105 = outside_105;
      twice_103 = twice_103;
      differs_106 = differs_106;
      stays_well = λ table y whole well c. let s = stays_well table y whole well c in record { whole = s.0; well = s.1 };
      counts_all = counts_all;
      tally_slot = tally_slot;
      turn_tally = turn_tally;
      tally_afresh = tally_afresh;
      tally_stays = tally_stays;
      carries_on = carries_on;
      never_106 = never_106;
      change_within = change_within;
      never_above = never_above;
      refused_return = refused_return;
      refused_108 = refused_108;
      gives_108 = gives_108;
      same_outcome = λ table c t was e. ap (λ (o : Totalled). o.outcome) (called table c t was e);
      change_unread = change_unread;
      stays_within = stays_within;
      totals_told = totals_told;
      totals_blank = totals_blank;
      total_not_above = total_not_above;
      first_empty = first_empty;
      first_only = first_only;
      none_empty = none_empty;
      none_alike = none_alike;
      from_0 = from_0;
      found_is = found_is;
      sets_first = sets_first;
      sets_only = sets_only;
      lists_exactly = lists_exactly;
      lists_only = lists_only;
      raise_means = raise_means;
      refused_9 = refused_9;
      only_9 = only_9;
      returned_anyway = returned_anyway;
      slot_never_rises = slot_never_rises;
      in_use = in_use_lem;
      when_lent = when_lent;
      none_comes = none_comes;
      all_have_one = all_have_one;
      by_course = by_course;
      bytes_hold = bytes_hold;
      sizes_hold = sizes_hold;
      tables_hold = tables_hold;
      turnings_hold = turnings_hold;
      salvages_hold = salvages_hold;
      requests_hold = requests_hold;
      acts_hold = acts_hold;
      cases_hold = cases_hold;
      writer_hold = writer_hold;
      replies_hold = replies_hold;
      listings_hold = listings_hold;
      histories_hold = histories_hold;
      rises_hold = rises_hold;
      demands_hold = demands_hold;
      starts_hold = starts_hold;
      tallies_hold = tallies_hold;
      unlisted_hold = unlisted_hold;
      totals_hold_lem = totals_hold_lem;
      demand_from = demand_from;
      after_salvage = after_salvage;
      after_turning = after_turning;
      blank_ledger_lem = blank_ledger_lem;
      demand_3 = demand_3;
      only_setups = only_setups;
      same_call = same_call;
      same_run = same_run;
      same_ledger = same_ledger;
    }
