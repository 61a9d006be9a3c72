-- What was salvaged, and what there is to print of it. Assumes nothing.
use Prim.Native.Nat.{ℕ, suc, ◌≤◌, ◌<◌}
use mathlib.Core.Path.{◌≡◌, refl, sym, ap, ◌∙◌}
use mathlib.Core.List.{List, [], ◌∷◌, ◌++◌, map}
use mathlib.Core.Bool.{Bool, true, false}
use native.Mathlib.Omega.{arith}
use lib.ListN.{length, take, drop, length-map, length-append, length-take}
use lib.Seq.{take_at, take_all}
use Rattle.std.specs.Borrow.{MutBor}
use Rattle.codes.specs.Codes.{fault_number}
use Rattle.codes.specs.declared.fault.Fault.{Fault}
use Rattle.codes.specs.declared.fault.Fault.TheVariants.{ReplyBufferShort, TableLength, TableNotWellFormed, NoFrame, StartOutside, TallyDiffers, ReportBufferShort, TotalOutside, WriterBufferShort, WriterFields, NoReply}
use Rattle.profile.specs.Bytes.{Bytes, zeros, over}
use Rattle.profile.specs.Table.{slot_count, slot_bytes, whole_slots}
use Rattle.profile.specs.Salvage.{Finding, kept, damaged, repeated, finding_byte, cleared, findings_of, left_of, report_of, Salvaged, salvage}
use Rattle.profile.specs.SalvageText.{table_printed, finding_lines, salvage_text}
use Rattle.profile.proofs.Strings.{length_zeros}
use Rattle.profile.proofs.WholeSlots.{at_most_15}
use Rattle.profile.proofs.Salvage.{length_findings, few_cleared, not_refused}
use Rattle.tables.proofs.SlotParts.{length_bytes}
use Rattle.salvage.specs.Salvages.{salvaged}
use Rattle.salvage.proofs.Outcomes.{by_length}
use Rattle.texts.specs.Written.{number, refusal}
use Rattle.texts.specs.Put.{Begun, Put}
use Rattle.texts.specs.declared.Text.{Text}
use Rattle.texts.proofs.Writing.{put_then, text_ends, text_is}
use Rattle.reports.specs.Printing.{word_of, line_of, lines_from, lines_of, cleared_text, Prints}

-- ---- lines by bytes are lines by findings
lines_are : (i : ℕ) (fs : List Finding) → lines_from i (map finding_byte fs) ≡ finding_lines i fs
unfolding line_of word_of number
lines_are i [] = refl
lines_are i (kept ∷ fs) = rw (lines_are (suc i) fs)
lines_are i (damaged ∷ fs) = rw (lines_are (suc i) fs)
lines_are i (repeated ∷ fs) = rw (lines_are (suc i) fs)

module _ (t : Bytes) where
  count : length (findings_of t) ≡ slot_count t
  unfolding findings_of
  count = length_findings [] (slot_bytes t) ∙ length_bytes t

  reported : (r : Bytes) → take (slot_count t) (over (report_of t) r) ≡ report_of t
  unfolding over report_of
  reported r =
      take_at (map finding_byte (findings_of t)) (drop (length (map finding_byte (findings_of t))) r) (slot_count t) (length-map (findings_of t) finding_byte ∙ count)

-- ---- by the number
module _ (t r : Bytes) (n : ℕ) (u p : Bytes) (e : salvaged n u p ≡ salvage t r) (room : 15 ≤ length r) where
  -- a refused table
  pub record Refused : Type 0 where
    pub not_whole : whole_slots t ≡ false
    pub number_is : n ≡ 102
    pub same_table : u ≡ t

  -- one that is salvaged
  pub record Done : Type 0 where
    pub is_whole : whole_slots t ≡ true
    pub number_is : n ≡ cleared (findings_of t)
    pub left_is : u ≡ left_of t
    pub report_is : take (slot_count t) p ≡ report_of t
    pub few : n ≤ 15

  refuses : whole_slots t ≡ false → Refused
  refuses w = let o = e ∙ sym (by_length t r w) in record { not_whole = w; number_is = ap (λ (x : Salvaged). x.number) o; same_table = ap (λ (x : Salvaged). x.table) o }

  does : whole_slots t ≡ true → Done
  does w =
      let few = at_most_15 t w in
      let o = e ∙ not_refused t w r (omega (arith, few, room)) in
      let m : n ≡ cleared (findings_of t) = ap (λ (x : Salvaged). x.number) o in
      record {
        is_whole = w;
        number_is = m;
        left_is = ap (λ (x : Salvaged). x.table) o;
        report_is = ap (λ (x : Salvaged). take (slot_count t) x.report) o ∙ reported t r;
        few = omega (arith, m, few_cleared (findings_of t), count t, few);
      }

  pub over_15 : 15 < n → Refused
  over_15 h = go (whole_slots t) refl
    where
      go : (b : Bool) → whole_slots t ≡ b → Refused
      go false w = refuses w
      go true w = absurd (omega (arith, h, (does w).few))

  pub up_to_15 : n ≤ 15 → Done
  up_to_15 h = go (whole_slots t) refl
    where
      go : (b : Bool) → whole_slots t ≡ b → Done
      go false w = absurd (omega (arith, h, (refuses w).number_is))
      go true w = does w

  -- ---- what there is to print
  module _ {out : MutBor Bytes} {x y : Text} {end : ℕ} (b : Begun out 0 x) where
    pub prints_refusal : 15 < n → Put (refusal n) x y → end ≡ y.at → Prints t out.now u y.out.now 0 end
    unfolding refusal salvage_text table_printed
    prints_refusal h w at =
        let o = over_15 h in
        let s : refusal n ≡ salvage_text t = rw (o.number_is, o.not_whole) in
        record {
          left_is = o.same_table ∙ ap (λ (z : Salvaged). z.table) (by_length t (zeros 15) o.not_whole);
          table_printed_lem = rw o.not_whole;
          table_ends = rw o.not_whole;
          written_is = text_is b w ∙ ap (λ (z : Bytes). over z out.now) s;
          text_ends = at ∙ text_ends b w ∙ ap length s;
        }

    pub prints_lines : n ≤ 15 → length u ≡ length t → {z : Text} → Put (lines_of (take (slot_count u) p)) x z → Put (cleared_text n) z y → end ≡ y.at
        → Prints t out.now u y.out.now (length u) end
    unfolding lines_of cleared_text salvage_text table_printed report_of
    prints_lines h k w v at =
        let o = up_to_15 h in
        let s : lines_of (take (slot_count t) p) ++ cleared_text n ≡ salvage_text t = rw (o.is_whole, o.report_is, lines_are 0 (findings_of t), o.number_is) in
        let all = put_then (rw k at w) v in
        record {
          left_is = o.left_is ∙ sym (ap (λ (z : Salvaged). z.table) (not_refused t o.is_whole (zeros 15) (rw (length_zeros 15) (at_most_15 t o.is_whole))));
          table_printed_lem = rw o.is_whole (take_all (length u) u (omega arith) ∙ o.left_is);
          table_ends = rw o.is_whole (ap length o.left_is);
          written_is = text_is b all ∙ ap (λ (z : Bytes). over z out.now) s;
          text_ends = at ∙ text_ends b all ∙ ap length s;
        }

-- a fault has no number that is one of slots
pub fault_over : (f : Fault) → 15 < fault_number f
fault_over ReplyBufferShort = omega arith
fault_over TableLength = omega arith
fault_over TableNotWellFormed = omega arith
fault_over NoFrame = omega arith
fault_over StartOutside = omega arith
fault_over TallyDiffers = omega arith
fault_over ReportBufferShort = omega arith
fault_over TotalOutside = omega arith
fault_over WriterBufferShort = omega arith
fault_over WriterFields = omega arith
fault_over NoReply = omega arith

-- ---- what there is to print ends within what was lent
module _ {t d u d' : Bytes} {table_end textEnd : ℕ} (p : Prints t d u d' table_end textEnd) where
  pub table_inside : table_end ≤ length u
  table_inside = omega (arith, p.table_ends, ap length p.table_printed_lem, length-take table_end u)

  pub text_inside : textEnd ≤ length d'
  unfolding over
  text_inside = rw p.written_is (simp length-append (omega (arith, p.text_ends)))
