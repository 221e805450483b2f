use Rattle.std.proofs.Common.{map}
use Rattle.be_session.specs.Operations.{sets}
use Rattle.bestore_c.proofs.Lists.{listed_ok, listed_err}
use Rattle.bestore_c.proofs.listing.report_attributes.Goals as goal

pub returns-in-Ok-clause-listed : goal.returns-in-Ok-clause-listed
returns-in-Ok-clause-listed c = λ pin meant pinned.
    listed_ok (sets c.args.node) (λ v. v.items) c.put_encoded.new.counts c.args.operations.now c.put_encoded.new.operations c.args.bytes.now
    c.put_encoded.new.bytes c.put_encoded.result
    pin c.args.answer c.in-Ok.list meant c.as_slice.result.now c.in-Ok.is pinned c.as_slice.ensures.value
    (c.put_encoded.ensures.listed (map (sets c.args.node) c.as_slice.result.now) c.encoded_attributes-encoded.ensures.ok
    c.encoded_attributes-encoded.ensures.err)

pub returns-in-Err-clause-listed : goal.returns-in-Err-clause-listed
returns-in-Err-clause-listed c = λ pin meant pinned.
    listed_err (sets c.args.node) (λ v. v.items) c.args.counts.now c.args.operations.now c.args.operations.now c.args.bytes.now c.args.bytes.now _
    pin c.args.answer c.in-Err.fault meant c.in-Err.is pinned c.code.ensures
