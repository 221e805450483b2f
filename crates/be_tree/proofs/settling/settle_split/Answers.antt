use Rattle.std.proofs.Common.{arith}
use Rattle.be_tree.specs.Slot.{pairs_of}
use Rattle.be_tree.proofs.Settles.{alone_apart, alone_settled}
use Rattle.be_tree.proofs.settling.settle_split.Goals as goal

pub pack-requires-clause-old : goal.pack-requires-clause-old
pack-requires-clause-old g c =
    alone_apart g.R.Look.kept g.R.Look.page_state g.R.Look.words c.args.step c.args.was c.args.node.level c.args.node.pair.now c.args.node.slots.now c.requires.child.0 c.args.room.now c.requires.child.1

pub returns-clause-ok : goal.returns-clause-ok
returns-clause-ok g c = λ start h.
    let new = c.pack.new.room in
    let given = c.args.node.pair.now in
    let branches = c.in_ok-branches.branches.items in
    record {
      in_range = omega (arith, h.in_range);
      gone = (omega arith, omega arith);
      some = c.in_ok-branches.ensures.some;
      before = omega arith;
      branches = c.in_ok-branches.ensures.branches;
      becomes = alone_settled g.R.Look.kept g.R.Look.page_state g.R.Look.words c.args.step c.args.was c.args.node.level given c.args.node.slots.now start c.args.room.now h (pairs_of (g.R.Look.words new) given branches) new c.in_ok-branches.ensures.ok;
    }
