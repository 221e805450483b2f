use Rattle.std.proofs.Common.{◌≡◌, ℕ, List, IfErr, Result, Ok, Err, inr, subst}
use Rattle.be_volume.specs.declared.ops.Op.{Op}
use Rattle.be_session.specs.Meaning.{IsNoOperation}
use Rattle.be_session.specs.Operations.{IsInvalidAt, part}
use Rattle.be_session.specs.declared.faults.Fault.{Fault}
use Rattle.be_session.specs.declared.lists.Operation.{Operation}
use Rattle.be_session.proofs.lists.one.Goals as goal

-- Parts that don't encode an operation are those of an invalid operation.
invalid_by : (o : Operation) (bytes name value : List ℕ) (r : Result Op Fault) → name ≡ part bytes o.name_at o.name_length → value ≡ part bytes o.value_at o.value_length
    → IfErr r (λ e. IsNoOperation o.kind name o.code o.number value e) → IfErr r (λ e. IsInvalidAt o bytes e)
invalid_by o bytes name value (Ok op) n v h = tt
invalid_by o bytes name value (Err e) n v h =
    inr (subst (λ a. IsNoOperation o.kind a o.code o.number (part bytes o.value_at o.value_length) e) n (subst (λ b. IsNoOperation o.kind name o.code o.number b e) v h))

pub returns-clause-err : goal.returns-clause-err
returns-clause-err c =
    invalid_by c.args.encoded.now c.args.bytes.now c.in-Some.name.now c.in-Some-part.value.now c.operation.result c.in-Some.ensures.some.1 c.in-Some-part.ensures.some.1
    c.operation.ensures.err
