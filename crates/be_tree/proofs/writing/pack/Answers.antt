use Rattle.std.proofs.Common.{suc, [], ◌∷◌, ◌++◌, ◌≡◌, List, ap, sym, subst, ◌∙◌, arith, rules}
use Rattle.be_tree.specs.declared.slot.Slot.{Slot}
use Rattle.be_tree.specs.declared.slot.Slot.TheVariants.{Branch}
use Rattle.be_tree.specs.Slot.{pairs_of}
use Rattle.be_tree_reading.specs.Tree.{pairs_below, pages_below, Becomes}
use Rattle.be_tree.proofs.Shape.Parts.{on_err}
use Rattle.be_tree.proofs.Sizes.InHand.{fewer_within, takes_within}
use Rattle.be_tree.proofs.Sizes.Refusals.{takes_on}
use Rattle.be_tree.proofs.writing.pack.Goals as goal

pub returns-clause-ok : goal.returns-clause-ok
returns-clause-ok g c =
    let words = g.R.Look.words c.args.room.now in
    let items = pairs_of words c.args.node.pair.now c.args.node.slots.now in
    let both : c.push-3.new.self.items ≡ Branch c.in_ok-left.left ∷ Branch c.in_ok-left.right ∷ [] =
    c.push-3.ensures.items ∙ ap (λ (xs : List Slot). xs ++ Branch c.in_ok-left.right ∷ []) (c.push-2.ensures.items ∙ ap (λ (xs : List Slot). xs ++ Branch c.in_ok-left.left ∷ []) c.new-branches.ensures) in
    subst (λ (xs : List Slot). Becomes g.R.Look.kept g.R.Look.page_state g.R.Look.words (c.args.old ∷ pages_below c.args.node.level words items) (pairs_below c.args.node.level words items) (suc c.args.node.level) (pairs_of (g.R.Look.words c.write_parts.new.room) c.args.node.pair.now xs) c.args.room.now c.write_parts.new.room)
    (sym both) c.in_ok-left.ensures.ok

pub returns-in_err-page-clause-refused : goal.returns-in_err-page-clause-refused
returns-in_err-page-clause-refused g c =
    (on_err _ (c.in_err-page.ensures.refused.0), search rules, takes_on 2 _ (g.R.Look.page_state c.args.room.now) (g.R.Look.page_state c.write_branch.new.room) (fewer_within 1 2 (g.R.Look.page_state c.args.room.now) (g.R.Look.page_state c.write_branch.new.room) (omega arith) c.in_err-page.ensures.refused.2.1))

pub returns-then-node-le-MOST_ITEMS-clause-refused : goal.returns-then-node-le-MOST_ITEMS-clause-refused
returns-then-node-le-MOST_ITEMS-clause-refused g c =
    (tt, tt, (takes_within 1 2 (g.R.Look.page_state c.args.room.now) (g.R.Look.page_state c.write_branch.new.room) (omega arith) c.in_ok-page.ensures.refused.2.0, tt))
