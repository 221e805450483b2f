use Rattle.be_store.proofs.Caught.{step_named}
use Rattle.be_store.proofs.named.add_named.Goals as goal

pub loop-i-preserved : goal.loop-i-preserved
loop-i-preserved c = record {
  rising = c.add_step.ensures.rising;
  keeps = λ n h. c.add_step.ensures.keeps n (c.loop-i.invariant.keeps n h);
  named = step_named c.args.ops.now c.args.dones.now c.loop-i.nodes.items c.add_step.new.nodes.items c.index-ops-i.result c.in-Some.done.now c.loop-i.i
      c.loop-i-test.true c.index-ops-i.is c.in-Some.ensures.lookup.1 c.add_step.ensures.keeps (c.add_step.ensures.named c.if-not-add_step.false) c.loop-i.invariant.named c.in-Some.ensures.lookup.3.0;
}
