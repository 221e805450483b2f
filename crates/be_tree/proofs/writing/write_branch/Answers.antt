use Rattle.std.proofs.Common.{[], ◌∷◌}
use Rattle.be_tree.specs.Slot.{pairs_of}
use Rattle.be_tree_reading.specs.Tree.{pages_below}
use Rattle.be_tree_reading.proofs.Frame.{one_beside}
use Rattle.be_tree.proofs.Nodes.Writes.{one_written}
use Rattle.be_tree.proofs.writing.write_branch.Goals as goal

pub returns-clause-ok : goal.returns-clause-ok
returns-clause-ok g c =
    one_written g.R.Look.kept g.R.Look.page_state g.R.Look.words c.args.node.level c.args.node.pair.now c.args.node.slots.now (c.args.old ∷ []) c.in_ok-page.page c.args.room.now c.write_changed.new.room c.requires.node.0 c.requires.size.0
    c.in_ok-page.ensures.ok c.in_ok-page.ensures.small c.in_ok-page.ensures.swaps
    (one_beside c.args.old (pages_below c.args.node.level (g.R.Look.words c.args.room.now) (pairs_of (g.R.Look.words c.args.room.now) c.args.node.pair.now c.args.node.slots.now)) c.requires.old.1 c.requires.node.0.once)
