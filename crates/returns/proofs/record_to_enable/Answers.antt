-- `returns::record_to_enable` meets its contract, by what was decided before and by the record's place and count. Assumes nothing.
use mathlib.Core.Path.{◌≡◌, sym, ap, ap₂, ◌∙◌}
use mathlib.Core.Bool.{Bool, ◌&&◌}
use borrow.Author.Rules.{rules}
use Rattle.std.proofs.lemmas.Result.{err_from_is_err_and}
use Rattle.profile.specs.Slot.{Count, raises}
use Rattle.profile.specs.Table.{count_of}
use Rattle.decisions.specs.Decisions.{installed, lent}
use Rattle.decisions.proofs.Deciding.{found_slot, refused_before, refused_then, passed}
use Rattle.returns.proofs.record_to_enable.Goals as goal

pub slot_at-requires : goal.slot_at-requires
slot_at-requires c = (found_slot _ _ _ c.in_ok-record.ensures.found).0

pub returns-in_err-record : goal.returns-in_err-record
returns-in_err-record c =
    let p = err_from_is_err_and c.from_residual.result c.from_residual.ensures.1 in
    let d = c.slot_under.ensures.decided installed (λ q b e. search rules) in
    rw (p.1, p.2) (refused_before _ _ _ _ (sym d ∙ c.in_err-record.was))

pub returns-then-lent-raised : goal.returns-then-lent-raised
returns-then-lent-raised c =
    let d = sym (c.slot_under.ensures.decided installed (λ q b e. search rules)) ∙ c.in_ok-record.was in
    let there = c.slot_at.ensures.0 ∙ (found_slot _ _ _ c.in_ok-record.ensures.found).1 in
    let held = c.raises-raised.ensures ∙ ap (λ (k : Count). raises k c.args.count) (c.count_of-stored.ensures ∙ ap count_of there) in
    let is : c.match-matches.matches ≡ lent c.in_ok-record.record.place = search rules in
    refused_then _ _ _ _ d (sym (ap₂ (λ (x y : Bool). x && y) is held) ∙ c.if-lent-raised.true)

pub returns : goal.returns
returns c =
    let d = sym (c.slot_under.ensures.decided installed (λ q b e. search rules)) ∙ c.in_ok-record.was in
    let there = c.slot_at.ensures.0 ∙ (found_slot _ _ _ c.in_ok-record.ensures.found).1 in
    let held = c.raises-raised.ensures ∙ ap (λ (k : Count). raises k c.args.count) (c.count_of-stored.ensures ∙ ap count_of there) in
    let is : c.match-matches.matches ≡ lent c.in_ok-record.record.place = search rules in
    passed _ _ _ _ d (sym (ap₂ (λ (x y : Bool). x && y) is held) ∙ c.if-lent-raised.false)
