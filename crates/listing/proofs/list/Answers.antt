-- `listing::list` meets its contract: refused, or the header and the lines. Assumes nothing.
use Prim.Native.Nat.{ℕ}
use mathlib.Core.Path.{◌≡◌, ap, ◌∙◌}
use native.Mathlib.Omega.{arith}
use lib.ListN.{length}
use Rattle.codes.specs.Codes.{fault_number}
use Rattle.codes.specs.declared.fault.Fault.TheVariants.{TableLength}
use Rattle.texts.proofs.Writing.{put_then, wrote_length}
use Rattle.listing.proofs.Whole.{refused_is, listed_is, listed}
use Rattle.listing.proofs.list.Goals as goal

pub returns-in-Err-TableLength : goal.returns-in-Err-TableLength
returns-in-Err-TableLength c =
    let e : c.from.result ≡ fault_number TableLength = c.from.ensures ∙ c.number.ensures in
    listed c.args.table.now (refused_is c.args.table.now TableLength (rw c.in-Err-TableLength.field-0-is at c.in-Err-TableLength.ensures)) c.new-text.ensures (rw e at c.refused.ensures) c.end.ensures

pub returns-in-Err : goal.returns-in-Err
returns-in-Err c =
    let e : c.from-in-Err.result ≡ fault_number c.in-Err.fault = c.from-in-Err.ensures ∙ c.number-in-Err.ensures in
    listed c.args.table.now (refused_is c.args.table.now c.in-Err.fault c.in-Err.ensures) c.new-text.ensures (rw e at c.refused-in-Err.ensures) c.end-in-Err.ensures

pub put_lines-requires : goal.put_lines-requires
put_lines-requires c =
    let b = c.new-text.ensures in
    let w = c.word.ensures.wrote in
    (c.in-Ok.ensures, omega (arith, b.begins, ap (length {A = ℕ}) b.as_lent, w.ends, wrote_length w))

pub returns : goal.returns
returns c = listed c.args.table.now (listed_is c.args.table.now c.in-Ok.ensures) c.new-text.ensures (put_then c.word.ensures c.put_lines.ensures) c.end-2.ensures
