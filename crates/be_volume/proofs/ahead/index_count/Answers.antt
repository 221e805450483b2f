use Rattle.std.proofs.Common.{IsOk, ◌∙◌}
use Rattle.be_volume.specs.Volume.{steps}
use Rattle.be_volume.proofs.FactLemmas.{indices_turn, indices_turn_fits}
use Rattle.be_volume.proofs.ahead.index_count.Goals as goal

pub indices_after-count-requires : goal.indices_after-count-requires
indices_after-count-requires g c =
    let ok : IsOk (steps g.volume c.args.before.now) = c.requires.1.1 in
    indices_turn_fits g.volume c.args.before.now c.loop-op.op-index c.op-item.result c.loop-op-test.true c.op-item.is ok c.loop-op.count c.loop-op.invariant.count c.loop-op.invariant.fits

pub loop-op-preserved : goal.loop-op-preserved
loop-op-preserved g c =
    let ok : IsOk (steps g.volume c.args.before.now) = c.requires.1.1 in
    record {
      count = c.indices_after-count.ensures ∙ indices_turn g.volume c.args.before.now c.loop-op.op-index c.op-item.result c.loop-op-test.true c.op-item.is ok c.loop-op.count c.loop-op.invariant.count;
      fits = c.indices_after-count.type_inv;
    }
