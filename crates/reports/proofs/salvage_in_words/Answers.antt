-- `reports::salvage_in_words` meets its contract: the line of a refused table, or the lines of its slots and the number. Assumes nothing.
use Prim.Native.Nat.{ℕ}
use mathlib.Core.Path.{◌≡◌, sym, ap, ◌∙◌}
use native.Mathlib.Omega.{arith}
use lib.ListN.{length, replicate}
use lib.Seq.{length-take-le}
use Rattle.codes.specs.Codes.{fault_number}
use Rattle.profile.specs.Table.{slot_count}
use Rattle.profile.proofs.WholeSlots.{at_most_15}
use Rattle.texts.proofs.Writing.{wrote_length}
use Rattle.reports.proofs.Whole.{fault_over, up_to_15, prints_refusal, prints_lines}
use Rattle.reports.proofs.salvage_in_words.Goals as goal

pub slice_bounds-report-end : goal.slice_bounds-report-end
slice_bounds-report-end c =
    let s = c.salvage in
    let o = up_to_15 c.args.table.now (replicate 15 0) c.in-Ok.cleared s.new.table s.new.report c.in-Ok.ensures.is (omega arith) c.in-Ok.ensures.few in
    omega (arith, at_most_15 c.args.table.now o.is_whole, s.auto.table, s.auto.report)

pub slice_bounds-put_lines-end : goal.slice_bounds-put_lines-end
slice_bounds-put_lines-end c =
    let s = c.salvage in
    let o = up_to_15 c.args.table.now (replicate 15 0) c.in-Ok.cleared s.new.table s.new.report c.in-Ok.ensures.is (omega arith) c.in-Ok.ensures.few in
    sym (length-take-le (slot_count s.new.table) s.new.report (omega (arith, at_most_15 c.args.table.now o.is_whole, s.auto.table, s.auto.report)))

pub put_cleared-requires : goal.put_cleared-requires
put_cleared-requires c =
    let s = c.salvage in
    let o = up_to_15 c.args.table.now (replicate 15 0) c.in-Ok.cleared s.new.table s.new.report c.in-Ok.ensures.is (omega arith) c.in-Ok.ensures.few in
    let few = at_most_15 c.args.table.now o.is_whole in
    let n = length-take-le (slot_count s.new.table) s.new.report (omega (arith, few, s.auto.table, s.auto.report)) in
    let b = c.new-words.ensures in (
      omega (arith, c.in-Ok.ensures.few, c.from-in-Ok.ensures),
      omega (arith, few, s.auto.table, n, c.put_lines.ensures.short, wrote_length c.put_lines.ensures.put.wrote, b.begins, ap (length {A = ℕ}) b.as_lent),
    )

pub returns-in-Err : goal.returns-in-Err
returns-in-Err c =
    let s = c.salvage in
    let f = c.in-Err.fault in
    let e : c.from.result ≡ fault_number f = c.from.ensures ∙ c.number.ensures in
    prints_refusal c.args.table.now (replicate 15 0) (fault_number f) s.new.table s.new.report c.in-Err.ensures.is (omega arith) c.new-words.ensures (fault_over f)
    (rw e at c.refused.ensures) c.end.ensures

pub returns-in-Ok : goal.returns-in-Ok
returns-in-Ok c =
    let s = c.salvage in
    prints_lines c.args.table.now (replicate 15 0) c.in-Ok.cleared s.new.table s.new.report c.in-Ok.ensures.is (omega arith) c.new-words.ensures c.in-Ok.ensures.few
    s.auto.table c.put_lines.ensures.put (rw c.from-in-Ok.ensures at c.put_cleared.ensures) c.end-in-Ok.ensures
