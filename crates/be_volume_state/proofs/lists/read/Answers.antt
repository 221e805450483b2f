use Rattle.std.proofs.Common.{◌≡◌, ◌∙◌, ◌<◌, ap, subst, arith}
use Rattle.be_volume_state.specs.Places.{IsNotLast, left_from}
use Rattle.be_volume_state.specs.declared.lists.Step.{Step}
use Rattle.be_volume_state.proofs.Stepping.{held_step, number_step}
use Rattle.be_volume_state.proofs.lists.read.Goals as goal

pub returns-in_ok-number_ops-in-Number-clause-piece :
    goal.returns-in_ok-number_ops-in-Number-clause-piece
returns-in_ok-number_ops-in-Number-clause-piece g c =
    let next : c.args.next ≡ g.volume.next = c.requires.1.1.0 in
    let below : c.in-Number.node < g.volume.next = omega (arith, c.if-node-next.true) in
    ap (left_from g.volume) c.in-Number.is ∙ number_step g.volume c.in-Number.node c.in_ok-number_ops-in-Number.field-0.items below c.in_ok-number_ops-in-Number.ensures.ops

pub returns-in_ok-held_ops-in-Held-clause-piece : goal.returns-in_ok-held_ops-in-Held-clause-piece
returns-in_ok-held_ops-in-Held-clause-piece g c =
    let next : c.args.next ≡ g.volume.next = c.requires.1.1.0 in
    let P : Step → Type 0 = λ step. IsNotLast step c.args.next in
    let before : c.in-Held.node < c.args.next = subst P c.in-Held.is c.requires.1.1.1 in
    let below : c.in-Held.node < g.volume.next = omega arith in
    ap (left_from g.volume) c.in-Held.is ∙ held_step g.volume c.in-Held.node c.in_ok-held_ops-in-Held.field-0.items below c.in_ok-held_ops-in-Held.ensures.ops
