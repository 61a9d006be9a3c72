-- `changes::slot::install` meets its contract: the fields of the right are written one after another. Assumes nothing.
use mathlib.Core.Path.{refl}
use Rattle.octets.proofs.ByteBounds.{below_256}
use Rattle.changes.proofs.SlotBytes.{given_stored}
use borrow.Author.Rules.{rules}
use Rattle.changes.proofs.slot.install.Goals as goal

pub returns : goal.returns
returns c =
    let content = c.put_content in
    let terms = c.put_terms in
    let a = c.args in
    let label = c.put_label in
    given_stored a.key a.count a.hashes a.n a.src.now a.at (search rules) c.requires.1 c.requires.2 c.requires.3
    a.s.now label.new.s terms.new.s content.new.s a.h _ (below_256 a.s.now (search rules)) (search rules) c.requires.0
    refl label.ensures terms.ensures content.ensures
