use Rattle.be_table.specs.Rule.{entries}
use Rattle.be_store.proofs.Caught.{named_so_far}
use Rattle.be_store.proofs.named.add_between.Goals as goal

pub loop-i-preserved : goal.loop-i-preserved
loop-i-preserved c = record {
  rising = c.add_entry.ensures.rising;
  named = named_so_far (entries c.args.held.now.knows.seen) c.loop-i.nodes.items c.add_entry.new.nodes.items c.args.from c.loop-i.i
      c.add_entry.ensures.keeps (c.add_entry.ensures.named c.if-not-add_entry.false) c.loop-i.invariant.named;
}
