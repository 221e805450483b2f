use Rattle.std.proofs.Common.{IsOk, ◌∙◌}
use Rattle.be_volume.specs.Volume.{steps}
use Rattle.be_volume.proofs.FactLemmas.{index_turn}
use Rattle.be_volume.proofs.ahead.has_index.Goals as goal

pub loop-op-preserved : goal.loop-op-preserved
loop-op-preserved g c =
    let ok : IsOk (steps g.volume c.args.before.now) = c.requires.1.1 in
    record {
      there = c.index_after-there.ensures ∙ index_turn g.volume c.args.before.now c.loop-op.op-index c.op-item.result c.loop-op-test.true c.op-item.is ok c.args.name.now c.loop-op.there c.loop-op.invariant.there;
    }
