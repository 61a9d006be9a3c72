-- `texts::Text::number` meets its contract: the digits that the kit shows are the profile's. Assumes nothing.
use Rattle.texts.proofs.Digits.{shown_number}
use Rattle.texts.proofs.Text.number.Goals as goal

pub word-requires : goal.word-requires
word-requires c = rw (let d = c.decimal-count in
    shown_number c.args.n d.result d.new.out c.requires.0 d.ensures.len d.ensures.digits) c.requires.1

pub returns : goal.returns
returns c = rw (let d = c.decimal-count in
    shown_number c.args.n d.result d.new.out c.requires.0 d.ensures.len d.ensures.digits) at c.word.ensures
