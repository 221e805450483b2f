use Rattle.std.proofs.Common.{◌≡◌, refl, inl, ap, ◌∙◌}
use Rattle.be_session.specs.Fault.{fault_code}
use Rattle.be_session.specs.Operations.{AreEncoded}
use Rattle.be_session.specs.declared.faults.Fault.TheVariants.{Refused}
use Rattle.be_value.specs.declared.refusals.Refusal.TheVariants.{OutOfMemory}
use Rattle.bestore_c.proofs.Lists.{at_err, at_ok, put_out}
use Rattle.bestore_c.proofs.listing.put_encoded.Goals as goal

pub returns-in-Ok-clause-listed : goal.returns-in-Ok-clause-listed
returns-in-Ok-clause-listed c = λ ops are none.
    let encoding = c.in-Ok.encoding in
    put_out ops c.put_encoding.new.counts c.args.operations.now c.put_encoding.new.operations c.args.bytes.now c.put_encoding.new.bytes _
    encoding.operations.items encoding.bytes.items
    (at_ok (λ s. AreEncoded s.operations.items s.bytes.items ops) c.args.encoded encoding c.in-Ok.is are) refl
    c.put_encoding.ensures.operations.0 c.put_encoding.ensures.operations.1 c.put_encoding.ensures.bytes.0 c.put_encoding.ensures.bytes.1

pub returns-in-Err-clause-listed : goal.returns-in-Err-clause-listed
returns-in-Err-clause-listed c = λ ops are none.
    inl (c.code.ensures ∙ ap fault_code (at_err (λ e. e ≡ Refused OutOfMemory) c.args.encoded c.in-Err.fault c.in-Err.is none))
