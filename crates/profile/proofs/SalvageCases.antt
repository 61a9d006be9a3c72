-- The worked cases of the salvage hold: computed, and what the words for it exclude.
use mathlib.Core.List.{[]}
use Prim.Native.Nat.{ℕ, ◌<◌}
use mathlib.Core.Path.{◌≡◌, refl, sym, ap, ◌∙◌}
use mathlib.Core.Bool.{false, true≢false}
use native.Mathlib.Omega.{arith}
use Rattle.profile.specs.Bytes.{Bytes, byte, zeros, over}
use Rattle.profile.specs.Slot.{Slot, Entry, empty, taken}
use Rattle.profile.specs.Table.{unpack, well_rest, well_slot, slot_bytes, slots_of, whole_slots}
use Rattle.profile.specs.Salvage.{findings_of, left_of, report_of, salvage}
use Rattle.profile.specs.Salvages.{Beside, stays, gives_way}
use Rattle.profile.specs.SalvageText.{table_printed, salvage_text}
use Rattle.profile.specs.SalvageCases
use Rattle.profile.proofs.Logic.{not_equal}

-- ---- where a slot beside one that changed stays
module _ {i j : ℕ} {s was : Bytes} where
  unless_below : {is : Bytes} → Beside i s j was is → (i < j → ⊥) → is ≡ was
  unless_below stays n = refl
  unless_below (gives_way h e f l w u v) n = absurd (n l)

  unless_well : {is : Bytes} → Beside i s j was is → well_slot s ≡ false → is ≡ was
  unless_well stays n = refl
  unless_well (gives_way h e f l w u v) n = absurd (true≢false (sym w ∙ n))

  unless_named : {is : Bytes} → Beside i s j was is → ((h : Bytes) (e f : Entry) → unpack s ≡ taken h e → unpack was ≡ taken h f → ⊥) → is ≡ was
  unless_named stays n = refl
  unless_named (gives_way h e f l w u v) n = absurd (n h e f u v)

handle_in : Slot → Bytes
handle_in empty = []
handle_in (taken h e) = h

pub salvages_hold : SalvageCases.Hold
unfolding SalvageCases.tables SalvageCases.printed findings_of left_of report_of salvage table_printed salvage_text whole_slots zeros over slot_bytes slots_of unpack well_rest well_slot handle_in
salvages_hold =
    record {
      salvaged = refl;
      enough = refl;
      no_room = refl;
      judged = refl;
      taken_for = refl;
      left = refl;
      counted = refl;
      below = λ b. not_equal 0 0x84 (λ t. t) (ap (byte 0) (unless_below b (λ l. omega (arith, l))));
      a_record = λ b. not_equal 0 0x84 (λ t. t) (ap (byte 0) (unless_well b refl));
      its_handle = λ b. not_equal 0 0x84 (λ t. t) (ap (byte 0) (unless_named b (λ h e f u v. not_equal 2 1 (λ t. t) (ap (λ (x : Slot). byte 0 (handle_in x)) u ∙ sym (ap (λ (x : Slot). byte 0 (handle_in x)) v)))));
      prints = refl;
      prints_table = refl;
      later = refl;
    }
