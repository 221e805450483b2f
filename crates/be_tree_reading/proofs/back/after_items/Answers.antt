use Rattle.std.proofs.Common.{arith}
use Rattle.be_tree_reading.proofs.Items.{items_count}
use Rattle.be_tree_reading.proofs.Putting.Puts.{tree_weaker}
use Rattle.be_tree_reading.proofs.Reading.Backward.{before_end}
use Rattle.be_tree_reading.proofs.Shape.Heights.{height}
use Rattle.be_tree_reading.proofs.back.after_items.Goals as goal

-- no level is above 13
pub overflow_cast-result-3 : goal.overflow_cast-result-3
overflow_cast-result-3 g c =
    let tree = c.requires.tree in
    omega (arith, height c.args.level tree.0 (g.L.Look.page_state c.args.look.now) (g.L.Look.words c.args.look.now) c.args.page tree.1 tree.2 (g.met.L.Look.pages_small c.args.look.now))

pub returns-clause-place : goal.returns-clause-place
returns-clause-place g c =
    let words = g.L.Look.words c.args.look.now in
    let tree = c.requires.tree in
    record {
      tree = tree_weaker c.args.level tree.0 (g.L.Look.page_state c.args.look.now) words c.args.page tree.1 tree.2;
      in_range = omega (arith, c.word-count.ensures.value, items_count (words c.args.page));
    }

pub returns-clause-all : goal.returns-clause-all
returns-clause-all g c = before_end (g.L.Look.words c.args.look.now) c.args.level c.args.page c.word-count.result c.word-count.ensures.value
