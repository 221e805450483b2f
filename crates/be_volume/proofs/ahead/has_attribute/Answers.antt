use Rattle.std.proofs.Common.{IsOk, subst, sym, ◌∙◌}
use Rattle.be_volume.specs.Volume.{steps}
use Rattle.std.proofs.Common.{◌≤◌, ◌+◌}
use Rattle.be_volume.proofs.FactLemmas.{next_turn, bound_turn, attribute_turn}
use Rattle.be_volume.proofs.ahead.has_attribute.Goals as goal

pub loop-op-preserved : goal.loop-op-preserved
loop-op-preserved g c =
    let ok : IsOk (steps g.volume c.args.before.now) = c.requires.1.1.0 in
    record {
      next = c.next_after-next.ensures ∙ next_turn g.volume c.args.before.now c.loop-op.op-index c.op-item.result c.loop-op-test.true c.op-item.is ok c.loop-op.next c.loop-op.invariant.next;
      bound = subst (λ n. n ≤ g.volume.next + (c.loop-op.op-index + 1)) (sym c.next_after-next.ensures) (bound_turn g.volume c.args.before.now c.loop-op.op-index c.op-item.result c.loop-op-test.true c.op-item.is ok c.loop-op.next c.loop-op.invariant.bound);
      there = c.attribute_after-there.ensures ∙ attribute_turn g.volume c.args.before.now c.loop-op.op-index c.op-item.result c.loop-op-test.true c.op-item.is ok c.args.node c.loop-op.next c.args.name.now c.loop-op.there c.loop-op.invariant.next c.loop-op.invariant.there;
    }

pub has_attribute-there-requires : goal.has_attribute-there-requires
has_attribute-there-requires g c = (g.volume, c.next-next.ensures.answers g.volume c.requires.1.0)
