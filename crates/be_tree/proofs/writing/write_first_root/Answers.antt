use Rattle.std.proofs.Common.{ℕ, [], ◌∷◌, sym, subst, arith}
use Rattle.std.proofs.lemmas.List.{length-map}
use Rattle.be_pages.specs.Pages.{Swaps}
use Rattle.be_tree.specs.Slot.{branch_to, pair_of, pairs_of}
use Rattle.be_tree_reading.specs.Tree.{BecomesTree}
use Rattle.be_tree_reading.proofs.Shape.Roots.{root_written}
use Rattle.be_tree.proofs.Nodes.Slots.{child_branch}
use Rattle.be_tree.proofs.writing.write_first_root.Goals as goal

pub returns-clause-ok : goal.returns-clause-ok
returns-clause-ok g c =
    let words = g.R.Look.words c.args.room.now in
    let new = g.R.Look.words c.write_node.new.room in
    let items = pairs_of words c.args.pair.now c.args.slots.now in
    let is = child_branch new c.in_ok-top.top c.in_ok-top.ensures.small in
    subst (λ (r : ℕ). BecomesTree g.R.Look.kept g.R.Look.page_state g.R.Look.words [] items r c.args.room.now c.write_node.new.room)
    (omega (arith, is))
    (root_written g.R.Look.kept g.R.Look.page_state g.R.Look.words 0 items (branch_to new c.in_ok-top.top) [] c.args.room.now c.write_node.new.room c.requires.below
    (omega (arith, c.requires.some, length-map c.args.slots.now (pair_of words c.args.pair.now))) c.in_ok-top.ensures.ok
    (subst (λ (p : ℕ). Swaps g.R.Look.kept g.R.Look.page_state g.R.Look.words [] (p ∷ []) c.args.room.now c.write_node.new.room) (sym is) c.in_ok-top.ensures.swaps) (λ q. omega arith))
