use Rattle.std.proofs.Common.{◌∙◌, ap, length, sym, arith}
use Rattle.be_journal.proofs.ViewLemmas.{next_step, never_next}
use Rattle.be_journal.proofs.views.StepsIterator.next.Goals as goal

pub unreachable-requires : goal.unreachable-requires
unreachable-requires c = never_next c.self.inside.left c.self.inside.bytes.now c.self.invariant c.if-self-eq0.false c.in_default.ensures

pub invariant_of-self : goal.invariant_of-self
invariant_of-self c = (next_step c.self.inside.left c.self.inside.bytes.now c.in-Some.op c.in-Some.done c.in-Some.rest.now c.self.invariant c.if-self-eq0.false c.in-Some.ensures).1

pub returns-clause-steps : goal.returns-clause-steps
returns-clause-steps c =
    sym c.self.view_is ∙ (next_step c.self.inside.left c.self.inside.bytes.now c.in-Some.op c.in-Some.done c.in-Some.rest.now c.self.invariant c.if-self-eq0.false c.in-Some.ensures).0

pub returns-clause-goes : goal.returns-clause-goes
returns-clause-goes c =
    let first = sym c.self.view_is ∙ (next_step c.self.inside.left c.self.inside.bytes.now c.in-Some.op c.in-Some.done c.in-Some.rest.now c.self.invariant c.if-self-eq0.false c.in-Some.ensures).0 in
    record { on = λ _. (tt, tt, omega (arith, ap length first)); keeps = tt; rests = λ _. tt }
