-- `setups::install::slot_to_fill` meets its contract, by what was decided before and the record's room. Assumes nothing.
use mathlib.Core.Path.{sym, ap, ◌∙◌}
use native.Mathlib.Omega.{arith}
use borrow.Author.Rules.{rules}
use borrow.Author.Tests.{lt-ltb, le-ltb}
use Rattle.std.proofs.lemmas.Result.{err_from_is_err_and}
use Rattle.profile.specs.Table.{length_of}
use Rattle.decisions.specs.Decisions.{awaited}
use Rattle.decisions.proofs.Deciding.{found_slot, refused_before, refused_then, passed}
use Rattle.setups.proofs.install.slot_to_fill.Goals as goal

pub slot_at-requires : goal.slot_at-requires
slot_at-requires c =
    let d = c.slot_under.ensures.decided awaited (λ q b e. search rules) in
    (found_slot _ _ _ c.in_ok-record.ensures.found).0

pub returns-in_err-record : goal.returns-in_err-record
returns-in_err-record c =
    let p = err_from_is_err_and c.from_residual.result c.from_residual.ensures.1 in
    let d = c.slot_under.ensures.decided awaited (λ q b e. search rules) in
    rw (p.1, p.2) (refused_before _ _ _ _ (sym d ∙ c.in_err-record.was))

pub returns-then-from-size : goal.returns-then-from-size
returns-then-from-size c =
    let d = sym (c.slot_under.ensures.decided awaited (λ q b e. search rules)) ∙ c.in_ok-record.was in
    let room = c.word_at-room.ensures ∙ ap length_of (c.slot_at.ensures.0 ∙ (found_slot _ _ _ c.in_ok-record.ensures.found).1) in
    refused_then _ _ _ _ d (lt-ltb _ _ (omega (arith, room, c.from.ensures, c.if-from-size.true)))

pub returns : goal.returns
returns c =
    let d = sym (c.slot_under.ensures.decided awaited (λ q b e. search rules)) ∙ c.in_ok-record.was in
    let room = c.word_at-room.ensures ∙ ap length_of (c.slot_at.ensures.0 ∙ (found_slot _ _ _ c.in_ok-record.ensures.found).1) in
    passed _ _ _ _ d (le-ltb _ _ (omega (arith, room, c.from.ensures, c.if-from-size.false)))
