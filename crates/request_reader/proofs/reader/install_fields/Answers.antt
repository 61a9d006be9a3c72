-- `request_reader::reader::install_fields` meets its contract, test by test. Assumes nothing.
use mathlib.Core.Bool.{not}
use mathlib.Core.Path.{refl, ap, ◌∙◌}
use Rattle.request_reader.proofs.Choices.{was_false, was_true}
use Rattle.request_reader.proofs.InstallTests.{hashes_out, zero_bit_set, no_payload, long_payload, installs}
use Rattle.request_reader.proofs.reader.install_fields.Goals as goal

pub returns-then-not-hashes_fit : goal.returns-then-not-hashes_fit
returns-then-not-hashes_fit c = hashes_out _ _ (c.from-hashes.ensures ∙ c.hash_count_of.ensures) (was_false c.hashes_fit.ensures (ap not c.if-not-hashes_fit.true)) refl

pub returns-then-hash_count_rest-ne0 : goal.returns-then-hash_count_rest-ne0
returns-then-hash_count_rest-ne0 c = zero_bit_set
    _
    _
    (c.from-hashes.ensures ∙ c.hash_count_of.ensures)
    (was_true c.hashes_fit.ensures (ap not c.if-not-hashes_fit.false))
    c.hash_count_rest.ensures
    c.if-hash_count_rest-ne0.true
    refl

pub returns-then-n-start : goal.returns-then-n-start
returns-then-n-start c = rw (← c.body_length-n.ensures) (no_payload
    _
    _
    (c.from-hashes.ensures ∙ c.hash_count_of.ensures)
    (was_true c.hashes_fit.ensures (ap not c.if-not-hashes_fit.false))
    c.hash_count_rest.ensures
    c.if-hash_count_rest-ne0.false
    c.if-n-start.true
    refl)

pub returns-then-payload-gt-MOST_PAYLOAD : goal.returns-then-payload-gt-MOST_PAYLOAD
returns-then-payload-gt-MOST_PAYLOAD c = rw (← c.body_length-n.ensures) (long_payload
    _
    _
    (c.from-hashes.ensures ∙ c.hash_count_of.ensures)
    (was_true c.hashes_fit.ensures (ap not c.if-not-hashes_fit.false))
    c.hash_count_rest.ensures
    c.if-hash_count_rest-ne0.false
    c.if-n-start.false
    c.if-payload-gt-MOST_PAYLOAD.true
    refl)

pub returns : goal.returns
returns c = rw (← c.body_length-n.ensures) (installs
    _
    _
    (c.from-hashes.ensures ∙ c.hash_count_of.ensures)
    (was_true c.hashes_fit.ensures (ap not c.if-not-hashes_fit.false))
    c.hash_count_rest.ensures
    c.if-hash_count_rest-ne0.false
    c.if-n-start.false
    c.if-payload-gt-MOST_PAYLOAD.false
    c.install_count.ensures)
