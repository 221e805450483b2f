use Rattle.be_tree_reading.proofs.Reading.Leaves.{leaf_same}
use Rattle.be_tree_reading.proofs.about.end_in.Goals as goal

pub leaf_from-before-requires-clause-tree : goal.leaf_from-before-requires-clause-tree
leaf_from-before-requires-clause-tree g c =
    leaf_same (g.L.Look.page_state c.args.look.now) (g.L.Look.page_state c.word-count.new.self) (g.L.Look.words c.args.look.now) (g.L.Look.words c.word-count.new.self) c.args.page
    c.word-count.ensures.page_state c.word-count.ensures.words c.requires.leaf
