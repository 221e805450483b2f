use Rattle.std.proofs.Common.{◌≤◌, ◌+◌, IsOk, List, length, take, subst, sym, ◌∙◌, arith}
use Rattle.std.proofs.lemmas.List.{take_all}
use Rattle.std.specs.FinMap as map
use Rattle.be_volume.specs.Maps.{attributes_of}
use Rattle.be_volume.specs.declared.ops.Op.{Op}
use Rattle.be_volume.specs.Volume.{steps}
use Rattle.be_volume.specs.Ahead.{state_after, sets_after}
use Rattle.be_volume.proofs.FactLemmas.{sets_grow, sets_turn}
use Rattle.be_volume.proofs.RefusalLemmas.{as_before, not_reached}
use Rattle.be_volume.proofs.ahead.may_be_full.Goals as goal

pub attribute_count-old-requires : goal.attribute_count-old-requires
attribute_count-old-requires g c = (g.volume, c.requires.1.0)

pub loop-op-init : goal.loop-op-init
loop-op-init g c = record {
  bound = omega arith;
  most = as_before (map.len (attributes_of g.volume.nodes c.args.node)) c.attribute_count-old.result (c.attribute_count-old.ensures.answer g.volume c.requires.1.0);
}

pub loop-op-preserved : goal.loop-op-preserved
loop-op-preserved g c =
    let ok : IsOk (steps g.volume c.args.before.now) = c.requires.1.1.0 in
    let at = c.loop-op.op-index in
    let old = c.attribute_count-old.result in
    let grown : sets_after c.op-item.result c.loop-op.sets c.args.node ≤ c.loop-op.sets + 1 = sets_grow c.op-item.result c.loop-op.sets c.args.node in
    let bound : sets_after c.op-item.result c.loop-op.sets c.args.node ≤ at + 1 = omega (arith, grown, c.loop-op.invariant.bound) in
    record {
      bound = subst (λ n. n ≤ at + 1) (sym c.sets_after-sets.ensures) bound;
      most = subst (λ n. map.len (attributes_of (state_after g.volume (take (at + 1) c.args.before.now)).nodes c.args.node) ≤ old + n) (sym c.sets_after-sets.ensures)
          (sets_turn g.volume c.args.before.now at c.op-item.result c.loop-op-test.true c.op-item.is ok c.args.node old c.loop-op.sets c.loop-op.invariant.most);
    }

pub returns-clause-few : goal.returns-clause-few
returns-clause-few g c = λ no.
    let before = c.args.before.now in
    let old = c.attribute_count-old.result in
    let ends : length before ≤ c.loop-op.op-index = omega (arith, c.loop-op-test.false) in
    let P : List Op → Type 0 = λ l. map.len (attributes_of (state_after g.volume l).nodes c.args.node) ≤ old + c.loop-op.sets in
    let most = subst P (take_all c.loop-op.op-index before ends) c.loop-op.invariant.most in
    not_reached _ (old + c.loop-op.sets) most (sym c.reach_limit.ensures ∙ no)
