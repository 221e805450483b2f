use Rattle.be_change.proofs.Left.{kind_back}
use Rattle.be_change.proofs.overlay.index_left.Goals as goal

pub returns-in-Some : goal.returns-in-Some
returns-in-Some c = λ base.
    kind_back base c.args.ops.now c.loop-i.i c.index-ops-i.result c.args.name.now c.index_left_by.result _ c.index_left_by.ensures c.in-Some.is
    c.loop-i-test.true c.loop-i.auto.i c.index-ops-i.is (c.loop-i.invariant base)

pub loop-i-preserved : goal.loop-i-preserved
loop-i-preserved c = λ base.
    kind_back base c.args.ops.now c.loop-i.i c.index-ops-i.result c.args.name.now c.index_left_by.result _ c.index_left_by.ensures c.in_default.is
    c.loop-i-test.true c.loop-i.auto.i c.index-ops-i.is (c.loop-i.invariant base)
