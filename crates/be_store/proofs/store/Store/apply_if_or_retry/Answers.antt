use Rattle.std.proofs.Common.{◌≡◌, ◌+◌, true, false, [], ◌∷◌, length, sym, ◌∙◌, arith}
use Rattle.be_store.specs.Conditional.{was_held}
use Rattle.be_store.proofs.Conditions.{accepted_if_last, held_again_if, refused_if_else, refused_if_last}
use Rattle.be_store.proofs.Retries.{untried}
use Rattle.be_store.proofs.store.Store.apply_if_or_retry.Goals as goal

pub loop-made-init : goal.loop-made-init
loop-made-init c = record { pass = c.requires.pass; tries = ([], omega arith, untried c.args.pass.now.knows) }

pub returns-then-not-was_held-clause-accepted : goal.returns-then-not-was_held-clause-accepted
returns-then-not-was_held-clause-accepted c =
    let t = c.loop-made.invariant.tries in
    accepted_if_last c.args.pass.now.knows t.0 c.loop-made.pass.knows c.apply_if-answer.new.pass.knows t.2 c.args.number c.args.ops.now (λ dones. dones.items) c.apply_if-answer.result c.apply_if-answer.ensures.accepted

pub returns-then-not-was_held-clause-refused : goal.returns-then-not-was_held-clause-refused
returns-then-not-was_held-clause-refused c =
    let t = c.loop-made.invariant.tries in
    let free : was_held c.apply_if-answer.result ≡ false = sym c.was_held.ensures ∙ c.if-not-was_held.true in
    refused_if_else c.args.pass.now.knows t.0 c.loop-made.pass.knows c.apply_if-answer.new.pass.knows t.2 c.args.number c.args.ops.now c.args.tries c.apply_if-answer.result free c.apply_if-answer.ensures.refused

pub loop-made-preserved : goal.loop-made-preserved
loop-made-preserved c =
    let t = c.loop-made.invariant.tries in
    let held : was_held c.apply_if-answer.result ≡ true = sym c.was_held.ensures ∙ c.if-not-was_held.false in
    let more = held_again_if c.args.pass.now.knows t.0 c.loop-made.pass.knows c.apply_if-answer.new.pass.knows t.2 c.args.number c.args.ops.now c.apply_if-answer.result held c.apply_if-answer.ensures.refused in
    record { pass = c.apply_if-answer.ensures.pass; tries = (more.0 ∷ t.0, omega (arith, t.1), more.1) }

pub returns-clause-accepted : goal.returns-clause-accepted
returns-clause-accepted c =
    let t = c.loop-made.invariant.tries in
    accepted_if_last c.args.pass.now.knows t.0 c.loop-made.pass.knows c.apply_if.new.pass.knows t.2 c.args.number c.args.ops.now (λ dones. dones.items) c.apply_if.result c.apply_if.ensures.accepted

pub returns-clause-refused : goal.returns-clause-refused
returns-clause-refused c =
    let t = c.loop-made.invariant.tries in
    let count : length t.0 + 1 ≡ c.args.tries = omega (arith, t.1) in
    refused_if_last c.args.pass.now.knows t.0 c.loop-made.pass.knows c.apply_if.new.pass.knows t.2 c.args.number c.args.ops.now c.args.tries c.apply_if.result count c.apply_if.ensures.refused
