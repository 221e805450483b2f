use Rattle.std.proofs.Common.{ℕ, [], ◌∷◌, IfOk, List, sym, subst, ap, ◌+◌, length, arith, rules}
use Rattle.std.proofs.lemmas.Result.{IfOk-weaker}
use Rattle.be_tree.specs.declared.path.Step.{Step}
use Rattle.be_tree.specs.declared.rising.Changed.{Changed}
use Rattle.be_tree_reading.specs.Page.{items_of, level_of}
use Rattle.be_tree.specs.Path.{IsChanged, whole}
use Rattle.be_tree.specs.Slot.{pairs_of}
use Rattle.be_tree.specs.Splicing.{spliced}
use Rattle.be_tree_reading.specs.Tree.{BecomesTree, pages, pairs_at}
use Rattle.be_tree_reading.proofs.Frame.{swaps_start}
use Rattle.be_tree.proofs.Leaves.{leaf_changed, leaf_pairs}
use Rattle.be_tree.proofs.Shape.Parts.{on_err}
use Rattle.be_tree.proofs.Sizes.InHand.{fewer_within}
use Rattle.be_tree.proofs.Sizes.Refusals.{refuses_since, takes_on}
use Rattle.be_tree.proofs.rising.change_leaf.Given.{Over}
use Rattle.be_tree.proofs.rising.change_leaf.Goals as goal
use Rattle.be_tree.proofs.rising.change_leaf.Goals.{In_ok-page}

changed : (g : Over) (c : In_ok-page g) → IsChanged g.R.Look.kept g.R.Look.page_state g.R.Look.words c.args.root c.args.path.now.above.items (record { was = c.args.path.now.leaf; page = c.in_ok-page.page; same_minimum = c.args.edit.same_minimum })
    (level_of (g.R.Look.words c.args.room.now c.args.path.now.leaf)) c.args.room.now c.splice.new.room
changed g c =
    leaf_changed g.R.Look.kept g.R.Look.page_state g.R.Look.words c.args.root c.args.path.now.above.items c.args.path.now.leaf c.args.edit.cut c.args.pair.now c.args.slots.now c.in_ok-page.page c.args.room.now c.splice.new.room
    c.requires.way c.requires.edit.is_leaf c.in_ok-page.ensures.ok c.requires.edit.enough c.requires.edit.rising c.args.edit.same_minimum c.requires.edit.least

pub rise-requires-clause-changed : goal.rise-requires-clause-changed
rise-requires-clause-changed g c =
    let leaf = c.args.path.now.leaf in (
      c.args.room.now,
      subst (λ xs. IsChanged g.R.Look.kept g.R.Look.page_state g.R.Look.words c.args.root xs (record { was = leaf; page = c.in_ok-page.page; same_minimum = c.args.edit.same_minimum })
          (level_of (g.R.Look.words c.args.room.now leaf)) c.args.room.now c.splice.new.room) (sym c.deref.ensures.0) (changed g (goal.at.rise-requires-clause-changed g c).In_ok-page),
    )

pub returns-clause-ok : goal.returns-clause-ok
returns-clause-ok g c =
    let words = g.R.Look.words c.args.room.now in
    let leaf = c.args.path.now.leaf in
    let above = c.args.path.now.above.items in
    let after : Changed = record { was = leaf; page = c.in_ok-page.page; same_minimum = c.args.edit.same_minimum } in
    let all = whole words above (spliced c.args.edit.cut (items_of (words leaf)) (pairs_of words c.args.pair.now c.args.slots.now)) in
    let becomes = λ (xs : List Step) (new : ℕ). (start : g.row.R.Denot) → IsChanged g.R.Look.kept g.R.Look.page_state g.R.Look.words c.args.root xs after (level_of (g.R.Look.words start leaf)) start c.splice.new.room
    → BecomesTree g.R.Look.kept g.R.Look.page_state g.R.Look.words (pages (g.R.Look.words start) c.args.root) (whole (g.R.Look.words start) xs (pairs_at (level_of (g.R.Look.words start leaf)) (g.R.Look.words c.splice.new.room) c.in_ok-page.page)) new start c.rise.new.room in
    IfOk-weaker c.rise.result (becomes above) (λ new. BecomesTree g.R.Look.kept g.R.Look.page_state g.R.Look.words (pages words c.args.root) all new c.args.room.now c.rise.new.room)
    (λ new h. subst (λ ps. BecomesTree g.R.Look.kept g.R.Look.page_state g.R.Look.words (pages words c.args.root) ps new c.args.room.now c.rise.new.room)
    (ap (whole words above) (leaf_pairs g.R.Look.kept g.R.Look.page_state g.R.Look.words c.args.root above leaf c.args.edit.cut c.args.pair.now c.args.slots.now c.in_ok-page.page c.args.room.now c.splice.new.room
    c.requires.way c.requires.edit.is_leaf c.in_ok-page.ensures.ok c.requires.edit.enough c.requires.edit.rising)) (h c.args.room.now (changed g (goal.at.returns-clause-ok g c).In_ok-page)))
    (subst (λ xs. IfOk c.rise.result (becomes xs)) c.deref.ensures.0 c.rise.ensures.ok)

pub returns-in_err-page-clause-refused : goal.returns-in_err-page-clause-refused
returns-in_err-page-clause-refused g c =
    (on_err _ (c.in_err-page.ensures.refused.0), search rules, takes_on (length c.args.path.now.above.items + 1) _ (g.R.Look.page_state c.args.room.now) (g.R.Look.page_state c.splice.new.room) (fewer_within 1 (length c.args.path.now.above.items + 1) (g.R.Look.page_state c.args.room.now) (g.R.Look.page_state c.splice.new.room) (omega arith) c.in_err-page.ensures.refused.2.1))

pub returns-clause-refused : goal.returns-clause-refused
returns-clause-refused g c =
    refuses_since g.R.Look.kept g.R.Look.page_state g.R.Look.words g.R.Room.full 1 (length c.deref.result.now) (length c.args.path.now.above.items + 1) c.rise.result c.args.room.now c.splice.new.room c.rise.new.room
    (swaps_start g.R.Look.kept g.R.Look.page_state g.R.Look.words (c.args.path.now.leaf ∷ []) (c.in_ok-page.page ∷ []) c.args.room.now c.splice.new.room c.in_ok-page.ensures.ok.swaps) c.in_ok-page.ensures.refused.2.0
    (omega (arith, ap length c.deref.ensures.0)) c.rise.ensures.refused
