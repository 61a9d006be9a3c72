-- The worked cases of sizes hold.
use mathlib.Core.Path.{refl}
use lib.Dec.{leb→le}
use Rattle.profile.specs.Slot.{RightFits}
use Rattle.profile.specs.Request.{Installable}
use Rattle.profile.specs.SizeCases.{least, least_sent, most, Hold}
use Rattle.profile.proofs.Logic.{not_equal, not_over}

least_right : RightFits least
least_right =
    record {
      room = record { key_16 = refl; hashed = record { each = tt; few = leb→le 0 8 tt }; short = leb→le 1 4096 tt };
      some_payload = leb→le 1 1 tt;
    }

most_right : RightFits most
most_right =
    record {
      room =
          record {
            key_16 = refl;
            hashed = record { each = (refl, (refl, (refl, (refl, (refl, (refl, (refl, (refl, tt)))))))); few = leb→le 8 8 tt };
            short = leb→le 4096 4096 tt;
          };
      some_payload = leb→le 1 4096 tt;
    }

sent_right : Installable least_sent
sent_right =
    record {
      fits =
          record {
            room = record { key_16 = refl; hashed = record { each = (refl, tt); few = leb→le 1 8 tt }; short = leb→le 1 4096 tt };
            some_payload = leb→le 1 1 tt;
          };
      some_hash = leb→le 1 1 tt;
    }

most_installable : Installable most
most_installable = record { fits = most_right; some_hash = leb→le 1 8 tt }

pub sizes_hold : Hold
sizes_hold =
    record {
      least_fits = least_right;
      most_fits = most_right;
      key_15 = λ f. not_equal 15 16 (λ t. t) f.room.key_16;
      key_17 = λ f. not_equal 17 16 (λ t. t) f.room.key_16;
      hashes_9 = λ f. not_over 9 8 (λ t. t) f.room.hashed.few;
      hash_19 = λ f. not_equal 19 20 (λ t. t) f.room.hashed.each.1.0;
      hash_21 = λ f. not_equal 21 20 (λ t. t) f.room.hashed.each.1.0;
      payload_0 = λ f. not_over 1 0 (λ t. t) f.some_payload;
      payload_4097 = λ f. not_over 4097 4096 (λ t. t) f.room.short;
      empty_fits = tt;
      room_1 = (refl, (leb→le 1 1 tt, leb→le 1 4096 tt));
      room_4096 = (refl, (leb→le 1 4096 tt, leb→le 4096 4096 tt));
      room_0 = λ f. not_over 1 0 (λ t. t) f.1.0;
      room_4097 = λ f. not_over 4097 4096 (λ t. t) f.1.1;
      enabled_fits = (refl, least_right);
      disabled_fits = (refl, most_right);
      enabled_0 = λ f. not_over 1 0 (λ t. t) f.1.some_payload;
      disabled_0 = λ f. not_over 1 0 (λ t. t) f.1.some_payload;
      handle_9 = λ f. not_equal 9 10 (λ t. t) f.0;
      handle_11 = λ f. not_equal 11 10 (λ t. t) f.0;
      table_fits = (tt, ((refl, (leb→le 1 1 tt, leb→le 1 4096 tt)), ((refl, least_right), tt)));
      first_bad = λ f. not_over 1 0 (λ t. t) f.0.1.0;
      last_bad = λ f. not_over 1 0 (λ t. t) f.1.0.1.0;
      least_sent_lem = sent_right;
      most_sent = most_installable;
      no_hash = λ f. not_over 1 0 (λ t. t) f.some_hash;
      not_fitting = λ f. not_over 1 0 (λ t. t) f.fits.some_payload;
      setup_fits = refl;
      install_fits = (refl, most_installable);
      retrieve_fits = (refl, refl);
      rek_fits = (refl, refl);
      enable_fits = refl;
      remove_fits = refl;
      cancel_fits = refl;
      list_fits_lem = most_right.room.hashed;
      info_fits = refl;
      setup_9 = λ f. not_equal 9 10 (λ t. t) f;
      install_9 = λ f. not_equal 9 10 (λ t. t) f.0;
      install_0 = λ f. not_over 1 0 (λ t. t) f.1.fits.some_payload;
      install_bare = λ f. not_over 1 0 (λ t. t) f.1.some_hash;
      retrieve_9 = λ f. not_equal 9 10 (λ t. t) f.0;
      retrieve_11 = λ f. not_equal 11 10 (λ t. t) f.1;
      rek_9 = λ f. not_equal 9 10 (λ t. t) f.0;
      rek_11 = λ f. not_equal 11 10 (λ t. t) f.1;
      enable_9 = λ f. not_equal 9 10 (λ t. t) f;
      remove_9 = λ f. not_equal 9 10 (λ t. t) f;
      cancel_11 = λ f. not_equal 11 10 (λ t. t) f;
      list_9 = λ f. not_over 9 8 (λ t. t) f.few;
      list_19 = λ f. not_equal 19 20 (λ t. t) f.each.1.0;
      info_11 = λ f. not_equal 11 10 (λ t. t) f;
    }
