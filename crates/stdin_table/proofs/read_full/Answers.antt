-- `stdin_table::read_full` meets its contract: a read goes on where the last one ended. Assumes nothing.
use Rattle.std.proofs.Common.{arith, ℕ, length-take, length-drop}
use Rattle.std.proofs.KnownBytes.{Consumes-trans}
use Rattle.stdin_table.proofs.Reading.{read_front}
use Rattle.stdin_table.proofs.read_full.Goals as goal

pub loop-n-preserved : goal.loop-n-preserved
loop-n-preserved g c =
    let i = c.loop-n.invariant in
    let b = c.in-Ok-1-to-max.ensures in
    let k = c.loop-n.auto.buf in
    record {
      within = omega (arith, b.bound.0, k, c.read.auto.buf, length-take {A = ℕ}, length-drop {A = ℕ});
      bytes = rw (read_front c.loop-n.done c.in-Ok-1-to-max.n c.loop-n.buf c.read.new.buf _ (omega (arith, k)) b.bound.0) (Consumes-trans _ _ _ _ _ i.bytes b.bytes.0);
    }
