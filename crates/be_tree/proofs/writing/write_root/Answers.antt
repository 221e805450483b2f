use Rattle.std.proofs.Common.{◌≡◌, ℕ, suc, [], ◌∷◌, ◌+◌, sym, subst, arith, rules}
use Rattle.std.proofs.lemmas.List.{length-map}
use Rattle.std.proofs.lemmas.List.Elements.{All-nil, All-cons}
use Rattle.be_pages.specs.Pages.{Swaps}
use Rattle.be_tree.specs.declared.slot.Slot.TheVariants.{Branch}
use Rattle.be_tree.specs.Slot.{branch_to, pair_of, pairs_of, IsBranchSlot}
use Rattle.be_tree_reading.specs.Tree.{child, pairs_below, pages_below, IsWritten, BecomesTree}
use Rattle.be_tree_reading.proofs.Frame.{one_beside, swaps_start, start_trans}
use Rattle.be_tree.proofs.Shape.Parts.{on_err}
use Rattle.be_tree_reading.proofs.Shape.Roots.{root_written, becomes_tree}
use Rattle.be_tree.proofs.Nodes.Slots.{child_branch, branches_ready}
use Rattle.be_tree.proofs.Sizes.InHand.{fewer_within, takes_fewer_then, takes_then, takes_within}
use Rattle.be_tree.proofs.Sizes.Refusals.{takes_on}
use Rattle.be_tree.proofs.writing.write_root.Goals as goal

pub returns-then-node-le-MOST_ITEMS-clause-ok : goal.returns-then-node-le-MOST_ITEMS-clause-ok
returns-then-node-le-MOST_ITEMS-clause-ok g c =
    let words = g.R.Look.words c.args.room.now in
    let new = g.R.Look.words c.write_changed.new.room in
    let items = pairs_of words c.args.node.pair.now c.args.node.slots.now in
    let is = child_branch new c.in_ok-top.top c.in_ok-top.ensures.small in
    subst (λ (r : ℕ). BecomesTree g.R.Look.kept g.R.Look.page_state g.R.Look.words (c.args.old ∷ pages_below c.args.node.level words items) (pairs_below c.args.node.level words items) r c.args.room.now c.write_changed.new.room)
    (omega (arith, is))
    (root_written g.R.Look.kept g.R.Look.page_state g.R.Look.words c.args.node.level items (branch_to new c.in_ok-top.top) (c.args.old ∷ []) c.args.room.now c.write_changed.new.room c.requires.node.0
    (omega (arith, c.requires.enough, length-map c.args.node.slots.now (pair_of words c.args.node.pair.now))) c.in_ok-top.ensures.ok
    (subst (λ (p : ℕ). Swaps g.R.Look.kept g.R.Look.page_state g.R.Look.words (c.args.old ∷ []) (p ∷ []) c.args.room.now c.write_changed.new.room) (sym is) c.in_ok-top.ensures.swaps)
    (one_beside c.args.old (pages_below c.args.node.level words items) c.requires.old.1 c.requires.node.0.once))

pub write_node-requires-clause-ready : goal.write_node-requires-clause-ready
write_node-requires-clause-ready g c = (
  branches_ready c.args.node.level (g.R.Look.page_state c.write_parts.new.room) (g.R.Look.words c.write_parts.new.room) c.args.node.pair.now (Branch c.in_ok-left.left ∷ Branch c.in_ok-left.right ∷ [])
      (All-cons IsBranchSlot (Branch c.in_ok-left.left) (Branch c.in_ok-left.right ∷ []) c.in_ok-left.ensures.small.0 (All-cons IsBranchSlot (Branch c.in_ok-left.right) [] c.in_ok-left.ensures.small.1 (All-nil IsBranchSlot)))
      c.in_ok-left.ensures.ok.below,
  c.requires.node.1.1,
)

pub returns-in_err-top-clause-refused : goal.returns-in_err-top-clause-refused
returns-in_err-top-clause-refused g c =
    (on_err _ (c.in_err-top.ensures.refused.0), search rules, takes_on 3 _ (g.R.Look.page_state c.args.room.now) (g.R.Look.page_state c.write_changed.new.room) (fewer_within 1 3 (g.R.Look.page_state c.args.room.now) (g.R.Look.page_state c.write_changed.new.room) (omega arith) c.in_err-top.ensures.refused.2.1))

pub returns-then-node-le-MOST_ITEMS-clause-refused : goal.returns-then-node-le-MOST_ITEMS-clause-refused
returns-then-node-le-MOST_ITEMS-clause-refused g c =
    (tt, tt, (takes_within 1 3 (g.R.Look.page_state c.args.room.now) (g.R.Look.page_state c.write_changed.new.room) (omega arith) c.in_ok-top.ensures.refused.2.0, tt))

pub returns-in_err-left-clause-refused : goal.returns-in_err-left-clause-refused
returns-in_err-left-clause-refused g c =
    (on_err _ (c.in_err-left.ensures.refused.0), search rules, takes_on 3 _ (g.R.Look.page_state c.args.room.now) (g.R.Look.page_state c.write_parts.new.room) (fewer_within 2 3 (g.R.Look.page_state c.args.room.now) (g.R.Look.page_state c.write_parts.new.room) (omega arith) c.in_err-left.ensures.refused.2.1))

pub returns-in_err-top-2-clause-refused : goal.returns-in_err-top-2-clause-refused
returns-in_err-top-2-clause-refused g c =
    let words = g.R.Look.words c.args.room.now in
    let mid = g.R.Look.words c.write_parts.new.room in (
      on_err _ (start_trans g.R.Look.kept g.R.Look.page_state g.R.Look.words c.args.room.now c.write_parts.new.room c.write_node.new.room
          (swaps_start g.R.Look.kept g.R.Look.page_state g.R.Look.words (c.args.old ∷ pages_below c.args.node.level words (pairs_of words c.args.node.pair.now c.args.node.slots.now)) (pages_below (suc c.args.node.level) mid (branch_to mid c.in_ok-left.left ∷ branch_to mid c.in_ok-left.right ∷ [])) c.args.room.now c.write_parts.new.room c.in_ok-left.ensures.ok.swaps)
          c.in_err-top-2.ensures.refused.0),
      search rules,
      takes_on 3 _ (g.R.Look.page_state c.args.room.now) (g.R.Look.page_state c.write_node.new.room) (takes_fewer_then 2 1 (g.R.Look.page_state c.args.room.now) (g.R.Look.page_state c.write_parts.new.room) (g.R.Look.page_state c.write_node.new.room) c.in_ok-left.ensures.refused.2.0 c.in_err-top-2.ensures.refused.2.1),
    )

pub returns-clause-ok : goal.returns-clause-ok
returns-clause-ok g c =
    let e : c.args.node.level + 1 ≡ suc c.args.node.level = omega arith in
    let words = g.R.Look.words c.args.room.now in
    let mid = g.R.Look.words c.write_parts.new.room in
    let new = g.R.Look.words c.write_node.new.room in
    let items = pairs_of words c.args.node.pair.now c.args.node.slots.now in
    let both = branch_to mid c.in_ok-left.left ∷ branch_to mid c.in_ok-left.right ∷ [] in
    let top = c.in_ok-top-2.top in
    let is = child_branch new top c.in_ok-top-2.ensures.small in
    subst (λ (r : ℕ). BecomesTree g.R.Look.kept g.R.Look.page_state g.R.Look.words (c.args.old ∷ pages_below c.args.node.level words items) (pairs_below c.args.node.level words items) r c.args.room.now c.write_node.new.room)
    (omega (arith, is))
    (becomes_tree g.R.Look.kept g.R.Look.page_state g.R.Look.words (c.args.old ∷ pages_below c.args.node.level words items) (pairs_below c.args.node.level words items)
    (suc c.args.node.level) both (suc (child (branch_to new top))) c.args.room.now c.write_parts.new.room c.write_node.new.room c.in_ok-left.ensures.ok
    (root_written g.R.Look.kept g.R.Look.page_state g.R.Look.words (suc c.args.node.level) both (branch_to new top) [] c.write_parts.new.room c.write_node.new.room c.in_ok-left.ensures.ok.below (omega arith)
    (subst (λ (n : ℕ). IsWritten n new both (branch_to new top)) e c.in_ok-top-2.ensures.ok)
    (subst (λ (p : ℕ). Swaps g.R.Look.kept g.R.Look.page_state g.R.Look.words [] (p ∷ []) c.write_parts.new.room c.write_node.new.room) (sym is) c.in_ok-top-2.ensures.swaps)
    (λ q. omega (arith, c.in_ok-left.ensures.ok.below.once q))))

pub returns-clause-refused : goal.returns-clause-refused
returns-clause-refused g c =
    (tt, tt, (takes_then 2 1 (g.R.Look.page_state c.args.room.now) (g.R.Look.page_state c.write_parts.new.room) (g.R.Look.page_state c.write_node.new.room) c.in_ok-left.ensures.refused.2.0 c.in_ok-top-2.ensures.refused.2.0, tt))
