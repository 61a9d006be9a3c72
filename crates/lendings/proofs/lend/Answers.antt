-- `lendings::lend` meets its contract: refused as it was decided, or the reply from the slot and the slot lent. Assumes nothing.
use Prim.Native.Nat.{◌*◌}
use mathlib.Core.Path.{ap, ◌∙◌}
use borrow.Author.Rules.{rules}
use Rattle.profile.specs.Bytes.{Bytes, over}
use Rattle.profile.specs.Table.{length_of, right_of}
use Rattle.profile.specs.Frame.{frame}
use Rattle.profile.specs.Agent.{given_bit, write_given}
use Rattle.octets.proofs.ByteBounds.{below_256}
use Rattle.decisions.proofs.Answers.{refused_serves, done_serves}
use Rattle.decisions.proofs.Deciding.{fits_lent, lent_moves}
use Rattle.lendings.specs.Lending.{kind_of, lent_by}
use Rattle.lendings.proofs.Outcomes.{lend_refused, to_lend, lends}
use Rattle.lendings.proofs.lend.Goals as goal

pub slot_at-slot-requires : goal.slot_at-slot-requires
slot_at-slot-requires c = (to_lend _ _ _ _ (below_256 c.args.table.now (search rules)) c.requires _ c.slot_to_lend.ensures _ c.in-Ok.is).has.inside

pub reply_lent-requires : goal.reply_lent-requires
reply_lent-requires c =
    let w = to_lend _ _ _ _ (below_256 c.args.table.now (search rules)) c.requires _ c.slot_to_lend.ensures _ c.in-Ok.is in
    let f = fits_lent _ _ (c.slot_at-slot.ensures.0 ∙ w.lent) w.fits in
    (c.requires.room, f.few, f.long.1)

pub relabel-requires : goal.relabel-requires
relabel-requires c =
    let w = to_lend _ _ _ _ (below_256 c.args.table.now (search rules)) c.requires _ c.slot_to_lend.ensures _ c.in-Ok.is in
    (w.has, w.place_is)

pub returns-in-Ok : goal.returns-in-Ok
returns-in-Ok c =
    let a = c.args in
    let bytes = below_256 a.table.now (search rules) in
    let kind = kind_of a.lending in
    let given : Bytes → Bytes = λ s. over (frame kind (128 * given_bit (lent_by kind (right_of s))) (write_given (lent_by kind (right_of s)))) a.reply.now in
    let w = to_lend _ _ _ _ bytes c.requires _ c.slot_to_lend.ensures _ c.in-Ok.is in
    let there = c.slot_at-slot.ensures.0 ∙ w.lent in
    done_serves (lends _ _ _ _ bytes c.requires _ c.slot_to_lend.ensures _ c.in-Ok.is (lent_by kind)) c.relabel.ensures
    (c.reply_lent.ensures ∙ ap given there) (lent_moves w _ (c.word_at-length.ensures ∙ ap length_of there) _)

pub returns-in-Err : goal.returns-in-Err
returns-in-Err c =
    let bytes = below_256 c.args.table.now (search rules) in
    refused_serves _ (lend_refused _ _ _ _ bytes c.requires _ c.slot_to_lend.ensures (lent_by (kind_of c.args.lending)) _ c.in-Err.is) (rw (c.number.ensures.is, c.kind.ensures) at c.reply_served.ensures)
