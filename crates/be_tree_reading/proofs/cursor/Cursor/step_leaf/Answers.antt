use Rattle.std.proofs.Common.{ℕ, ◌++◌, drop, ap, subst, ◌∙◌}
use Rattle.be_tree_reading.specs.Cursor.{pairs_along}
use Rattle.be_tree_reading.specs.Page.{items_of}
use Rattle.be_tree_reading.specs.Tree.{IsTreeAt, pairs_below}
use Rattle.be_tree_reading.proofs.cursor.Cursor.step_leaf.Goals as goal

pub returns-clause-leaf : goal.returns-clause-leaf
returns-clause-leaf g c =
    let i = c.in_ok-place.ensures in
    subst (λ (l : ℕ). IsTreeAt l 1 (g.L.Look.page_state c.args.look.now) (g.L.Look.words c.args.look.now) c.in_ok-place.place.page) i.leaf i.place.0.tree

pub returns-clause-parts : goal.returns-clause-parts
returns-clause-parts g c =
    let words = g.L.Look.words c.args.look.now in
    let place = c.in_ok-place.place in
    let i = c.in_ok-place.ensures in
    i.parts ∙ ap (λ (l : ℕ). pairs_below l words (drop place.next (items_of (words place.page))) ++ pairs_along words c.take_place.new.self.path.items) i.leaf
