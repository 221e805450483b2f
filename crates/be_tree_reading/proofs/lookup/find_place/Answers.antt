use Rattle.std.proofs.Common.{◌≡◌, ◌∙◌, ◌-◌, ◌<◌, length, refl, ap, sym, subst, ℕ, Some, arith}
use Rattle.be_tree_reading.specs.Key.{key_cmp, payload_at}
use Rattle.be_tree_reading.specs.Places.{IsBranchAt, IsFoundAt, IsGapAt}
use Rattle.be_tree_reading.specs.Page.{items_of, item_at, IsItem}
use Rattle.be_tree_reading.proofs.Items.{item_get, items_count}
use Rattle.be_tree_reading.proofs.Frame.{unchanged_trans}
use Rattle.be_tree_reading.specs.Tree.{IsTreeAt, child, pairs_at}
use Rattle.be_tree_reading.proofs.TreeFacts.{StepsDown, steps_down}
use Rattle.be_tree_reading.proofs.Searching.{found_equal, found_gap}
use Rattle.be_tree_reading.proofs.lookup.find_place.Given.{Over}
use Rattle.be_tree_reading.proofs.lookup.find_place.Goals as goal
use Rattle.be_tree_reading.proofs.lookup.find_place.Goals.{After-branch_in-at, In-Ok}

-- after the search, the words are those at the call
words_same : (g : Over) (c : After-branch_in-at g) → g.L.Look.words c.branch_in-at.new.look ≡ g.L.Look.words c.args.look.now
words_same g c = c.branch_in-at.ensures.unchanged.words ∙ c.loop-level.invariant.unchanged.words

found : (g : Over) (c : After-branch_in-at g) → IsBranchAt c.args.key.now (items_of (g.L.Look.words c.args.look.now c.loop-level.page)) c.branch_in-at.result
found g c = subst (λ (w : ℕ → ℕ → ℕ). IsBranchAt c.args.key.now (items_of (w c.loop-level.page)) c.branch_in-at.result) (c.loop-level.invariant.unchanged.words) c.branch_in-at.ensures.branch

at_item : (g : Over) (c : After-branch_in-at g) → (found g c).number < g.L.Look.words c.args.look.now c.loop-level.page 1
at_item g c = omega (arith, (found g c).is_branch.before, (found g c).is_branch.is_rank.in_range, c.loop-level.invariant.tree.node.enough, c.loop-level.invariant.some, items_count (g.L.Look.words c.args.look.now c.loop-level.page))

-- the branch that was found leads down
steps : (g : Over) (c : After-branch_in-at g) → StepsDown c.loop-level.level (c.loop-level.level - 1) (g.L.Look.page_state c.args.look.now) (g.L.Look.words c.args.look.now) c.loop-level.page c.args.key.now (item_at (g.L.Look.words c.args.look.now c.loop-level.page) c.branch_in-at.result)
steps g c =
    let words = g.L.Look.words c.args.look.now c.loop-level.page in
    let of = found g c in
    let branch = item_at words c.branch_in-at.result in
    steps_down c.loop-level.level (c.loop-level.level - 1) c.loop-level.invariant.least (g.L.Look.page_state c.args.look.now) (g.L.Look.words c.args.look.now) c.loop-level.page c.args.key.now
    (items_of words) of.is_branch.rank of.number branch
    (omega (arith, c.loop-level-test.true)) c.loop-level.invariant.tree c.loop-level.invariant.some refl of.is_branch.is_rank of.is_branch.before
    (sym (item_get words of.number branch (at_item g c) ∙ ap (item_at words) (sym of.is_place)))

-- a page of a tree has an item
pub branch_in-at-requires-clause-some : goal.branch_in-at-requires-clause-some
branch_in-at-requires-clause-some g c =
    let i = c.loop-level.invariant in
    subst (λ (w : ℕ → ℕ → ℕ). 0 < w c.loop-level.page 1) (sym (i.unchanged.words)) (omega (arith, i.tree.node.enough, i.some, items_count (g.L.Look.words c.args.look.now c.loop-level.page)))

pub child_at-page-requires-clause-in_page : goal.child_at-page-requires-clause-in_page
child_at-page-requires-clause-in_page g c =
    let at = (goal.at.child_at-page-requires-clause-in_page g c).After-branch_in-at in
    omega (arith, at_item g at, (found g at).is_place, c.loop-level.invariant.tree.node.is_page.few)

pub child_at-page-requires-clause-item : goal.child_at-page-requires-clause-item
child_at-page-requires-clause-item g c =
    let at = (goal.at.child_at-page-requires-clause-item g c).After-branch_in-at in
    subst (λ (w : ℕ → ℕ → ℕ). IsItem (w c.loop-level.page) c.branch_in-at.result) (sym (words_same g at))
    (subst (λ (p : ℕ). IsItem (g.L.Look.words c.args.look.now c.loop-level.page) p) (sym (found g at).is_place) (c.loop-level.invariant.tree.node.is_page.each (found g at).number (at_item g at)))

pub child_at-page-requires-clause-names_page : goal.child_at-page-requires-clause-names_page
child_at-page-requires-clause-names_page g c =
    let at = (goal.at.child_at-page-requires-clause-names_page g c).After-branch_in-at in
    subst (λ (w : ℕ → ℕ → ℕ). length (item_at (w c.loop-level.page) c.branch_in-at.result).payload ≡ 8) (sym (words_same g at)) (steps g at).names_page

pub loop-level-preserved : goal.loop-level-preserved
loop-level-preserved g c =
    let at = (goal.at.loop-level-preserved g c).After-branch_in-at in
    let s = steps g at in
    let is = c.child_at-page.ensures.child ∙ ap (λ (w : ℕ → ℕ → ℕ). child (item_at (w c.loop-level.page) c.branch_in-at.result)) (words_same g at) in
    record {
      least = 6;
      some = omega arith;
      tree = subst (λ p. IsTreeAt (c.loop-level.level - 1) 6 (g.L.Look.page_state c.args.look.now) (g.L.Look.words c.args.look.now) p) (sym is) s.tree;
      same = ap (λ p. payload_at (pairs_at (c.loop-level.level - 1) (g.L.Look.words c.args.look.now) p) c.args.key.now) is ∙ sym s.same ∙ c.loop-level.invariant.same;
      unchanged = unchanged_trans g.L.Look.kept g.L.Look.page_state g.L.Look.words c.args.look.now c.branch_in-at.new.look c.child_at-page.new.look
          (unchanged_trans g.L.Look.kept g.L.Look.page_state g.L.Look.words c.args.look.now c.loop-level.look c.branch_in-at.new.look c.loop-level.invariant.unchanged c.branch_in-at.ensures.unchanged) c.child_at-page.ensures.unchanged;
    }

-- the item with the key
there : (g : Over) (c : In-Ok g) → IsFoundAt c.args.key.now (g.L.Look.words c.args.look.now c.loop-level.page) c.in-Ok.at
there g c = subst (λ (w : ℕ → ℕ → ℕ). IsFoundAt c.args.key.now (w c.loop-level.page) c.in-Ok.at) c.loop-level.invariant.unchanged.words c.in-Ok.ensures.found

pub returns-in-Ok-clause-in_page : goal.returns-in-Ok-clause-in_page
returns-in-Ok-clause-in_page g c =
    let of = there g (goal.at.returns-in-Ok-clause-in_page g c).In-Ok in
    omega (arith, of.in_range, of.is_place, c.loop-level.invariant.tree.node.is_page.few)

pub returns-in-Ok-clause-fits : goal.returns-in-Ok-clause-fits
returns-in-Ok-clause-fits g c =
    let of = there g (goal.at.returns-in-Ok-clause-fits g c).In-Ok in
    subst (λ (p : ℕ). IsItem (g.L.Look.words c.args.look.now c.loop-level.page) p) (sym of.is_place) (c.loop-level.invariant.tree.node.is_page.each of.number of.in_range)

pub returns-in-Ok-clause-some : goal.returns-in-Ok-clause-some
returns-in-Ok-clause-some g c =
    let of = there g (goal.at.returns-in-Ok-clause-some g c).In-Ok in
    let i = c.loop-level.invariant in
    let words = g.L.Look.words c.args.look.now in
    let page = c.loop-level.page in
    sym i.same
    ∙ found_equal c.loop-level.level i.least (g.L.Look.page_state c.args.look.now) words page c.args.key.now of.number (omega (arith, c.loop-level-test.false)) i.tree i.some of.in_range
    (ap (λ (p : ℕ). key_cmp (item_at (words page) p).key c.args.key.now) (sym of.is_place) ∙ of.same)
    ∙ ap (λ (p : ℕ). Some (item_at (words page) p).payload) (sym of.is_place)

pub returns-in-Err-clause-none : goal.returns-in-Err-clause-none
returns-in-Err-clause-none g c =
    let i = c.loop-level.invariant in
    let words = g.L.Look.words c.args.look.now in
    let of = subst (λ (w : ℕ → ℕ → ℕ). IsGapAt c.args.key.now (w c.loop-level.page) c.in-Err.field-0) i.unchanged.words c.in-Err.ensures.absent in
    sym i.same
    ∙ found_gap c.loop-level.level i.least (g.L.Look.page_state c.args.look.now) words c.loop-level.page c.args.key.now of.number (omega (arith, c.loop-level-test.false)) i.tree i.some of.is_gap
