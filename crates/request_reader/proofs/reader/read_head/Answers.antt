-- `request_reader::reader::read_head` meets its contract, test by test. Assumes nothing.
use native.Mathlib.Omega.{arith}
use mathlib.Core.Path.{◌≡◌, sym, ap, ◌∙◌}
use mathlib.Core.Option.{Option, none, some}
use Rattle.std.specs.Prelude.{◌-◌, Err, length}
use Rattle.std.proofs.lemmas.Result.{err_from_is_err_and}
use Rattle.request_reader.specs.declared.asked.Why.TheVariants.{Unsupported}
use Rattle.codes.specs.Codes.{kind_meant, kind_told}
use Rattle.profile.specs.Bytes.{word}
use Rattle.profile.specs.Frame.{Kind, kind_of, kind_number}
use Rattle.profile.specs.Request.{verdict}
use Rattle.request_reader.specs.Asking.{of_kind, asked}
use Rattle.request_reader.proofs.Choices.{tests}
use Rattle.request_reader.proofs.reader.read_head.Goals as goal

pub returns-then-f-lt4 : goal.returns-then-f-lt4
unfolding asked
returns-then-f-lt4 c = search tests

pub returns-then-f-n : goal.returns-then-f-n
unfolding asked
returns-then-f-n c = search (tests, ← c.from-n.ensures, ← c.word_at.ensures)

pub returns-then-frame_version-ne1 : goal.returns-then-frame_version-ne1
unfolding asked
returns-then-frame_version-ne1 c = search (tests, ← c.frame_version.ensures, ← c.from-n.ensures, ← c.word_at.ensures)

pub returns-then-not-zero_bits : goal.returns-then-not-zero_bits
unfolding asked
returns-then-not-zero_bits c =
    let k : kind_told c.try_from-kind.result ≡ kind_of (kind_number c.args.f.now) = c.try_from-kind.ensures ∙ ap kind_of c.frame_kind.ensures in
    search (tests, c.if-not-zero_bits.true, ← k, ← c.zero_bits.ensures, ← c.frame_version.ensures, ← c.from-n.ensures, ← c.word_at.ensures)

pub returns-in_err-kind : goal.returns-in_err-kind
unfolding asked of_kind
returns-in_err-kind c =
    let k : kind_told c.try_from-kind.result ≡ kind_of (kind_number c.args.f.now) = c.try_from-kind.ensures ∙ ap kind_of c.frame_kind.ensures in
    let none_is : none ≡ kind_of (kind_number c.args.f.now) = sym (ap kind_told c.in_err-kind.was) ∙ k in
    let e : Err Unsupported ≡ of_kind (kind_of (kind_number c.args.f.now)) (word 2 c.args.f.now) (verdict c.args.f.now) c.args.f.now =
    ap (λ (o : Option Kind). of_kind o (word 2 c.args.f.now) (verdict c.args.f.now) c.args.f.now) none_is in
    let p = err_from_is_err_and c.from_residual.result c.from_residual.ensures.1 in
    rw (p.1, p.2)
    (search (tests, c.if-not-zero_bits.false, e, ← k, ← c.zero_bits.ensures, ← c.frame_version.ensures, ← c.from-n.ensures, ← c.word_at.ensures))

pub returns : goal.returns
unfolding asked
returns c =
    let k : kind_told c.try_from-kind.result ≡ kind_of (kind_number c.args.f.now) = c.try_from-kind.ensures ∙ ap kind_of c.frame_kind.ensures in
    let some_is : some (kind_meant c.in_ok-kind.field-0) ≡ kind_of (kind_number c.args.f.now) = sym (ap kind_told c.in_ok-kind.was) ∙ k in
    let e : of_kind (some (kind_meant c.in_ok-kind.field-0)) c.from-n.result (verdict c.args.f.now) c.args.f.now ≡ of_kind (kind_of (kind_number c.args.f.now)) c.from-n.result (verdict c.args.f.now) c.args.f.now = ap (λ (o : Option Kind). of_kind o c.from-n.result (verdict c.args.f.now) c.args.f.now) some_is in
    let n_is : length c.args.f.now - 4 ≡ c.from-n.result = omega arith in
    (omega arith, rw n_is (search (tests, c.if-not-zero_bits.false, e, ← k, ← c.zero_bits.ensures, ← c.frame_version.ensures, ← c.from-n.ensures, ← c.word_at.ensures)))
