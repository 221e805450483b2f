use Rattle.std.proofs.Common.{List, sym, subst, ◌∙◌}
use Rattle.be_volume.specs.declared.ops.Op.{Op}
use Rattle.bestore_c.specs.Calls.{IsPutOut}
use Rattle.bestore_c.specs.Drafts.{ListsDraft}
use Rattle.bestore_c.proofs.bes_change_batch.Goals as goal

pub returns-clause-listed : goal.returns-clause-listed
returns-clause-listed c =
    subst (λ d. ListsDraft d c.put_encoded.new.counts c.args.listed.now c.put_encoded.new.operations c.args.bytes.now c.put_encoded.new.bytes c.put_encoded.result)
    (sym (c.typed.ensures.value ∙ c.lent.ensures.value))
    (subst (λ (ops : List Op). IsPutOut ops c.put_encoded.new.counts c.args.listed.now c.put_encoded.new.operations c.args.bytes.now c.put_encoded.new.bytes c.put_encoded.result)
    c.operations.ensures.list
    (c.put_encoded.ensures.listed c.operations.result.now c.encoded_operations-encoded.ensures.ok c.encoded_operations-encoded.ensures.err))
