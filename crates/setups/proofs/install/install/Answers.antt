-- `setups::install::install` meets its contract: refused as it was decided, or the right stored. Assumes nothing.
use Prim.Native.Nat.{◌+◌, ◌*◌}
use mathlib.Core.Path.{ap, ◌∙◌}
use native.Mathlib.Omega.{arith}
use borrow.Author.Rules.{rules}
use Rattle.profile.specs.Sizes.{hash_size}
use Rattle.profile.specs.Table.{length_of}
use Rattle.profile.proofs.Strings.{length_part}
use Rattle.octets.proofs.ByteBounds.{below_256}
use Rattle.changes.specs.Change.{right_from}
use Rattle.decisions.proofs.Answers.{refused_serves, done_serves}
use Rattle.setups.proofs.Outcomes.{install_refused, to_fill, installs, install_moves}
use Rattle.setups.proofs.install.install.Goals as goal

pub slot_at-requires : goal.slot_at-requires
slot_at-requires c =
    let a = c.args in
    (to_fill _ _ _ (below_256 a.table.now (search rules)) c.requires.0 a.size _ c.slot_to_fill.ensures _ c.in-Ok.is).has.inside

pub store_right-requires : goal.store_right-requires
store_right-requires c =
    let a = c.args in
    let sent = c.requires.1 in
    let w = to_fill _ _ _ (below_256 a.table.now (search rules)) c.requires.0 a.size _ c.slot_to_fill.ensures _ c.in-Ok.is in
    (w.has, w.place_is, sent.few, sent.short, sent.inside)

pub returns-in-Ok : goal.returns-in-Ok
returns-in-Ok c =
    let a = c.args in
    let bytes = below_256 a.table.now (search rules) in
    let x = right_from a.key a.count a.hashes a.size a.frame.now a.at in
    let sized = length_part (a.at + hash_size * a.hashes) a.size a.frame.now (omega (arith, c.requires.1.inside)) in
    let w = to_fill _ _ _ bytes c.requires.0 a.size _ c.slot_to_fill.ensures _ c.in-Ok.is in
    done_serves (installs _ _ _ bytes c.requires.0 a.size _ c.slot_to_fill.ensures x sized _ c.in-Ok.is) c.store_right.ensures
    (rw c.number.ensures.is at c.reply_served.ensures)
    (install_moves _ _ _ bytes c.requires.0 a.size _ c.slot_to_fill.ensures x sized _ c.in-Ok.is _ (c.word_at-room.ensures ∙ ap length_of (c.slot_at.ensures.0 ∙ w.lent)))

pub returns-in-Err : goal.returns-in-Err
returns-in-Err c =
    let a = c.args in
    let x = right_from a.key a.count a.hashes a.size a.frame.now a.at in
    let sized = length_part (a.at + hash_size * a.hashes) a.size a.frame.now (omega (arith, c.requires.1.inside)) in
    refused_serves _ (install_refused _ _ _ (below_256 a.table.now (search rules)) c.requires.0 a.size _ c.slot_to_fill.ensures x sized _ c.in-Err.is)
    (rw c.number-in-Err.ensures.is at c.reply_served-in-Err.ensures)
