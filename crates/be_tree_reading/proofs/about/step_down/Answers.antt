use Rattle.std.proofs.Common.{◌≡◌, ◌∙◌, ℕ, ◌+◌, ◌-◌, ◌*◌, ◌<◌, length, ap, sym, subst, arith}
use Rattle.be_tree_reading.specs.Page.{IsItem, IsPage, item_at}
use Rattle.be_tree_reading.specs.Tree.{IsTreeAt, child}
use Rattle.be_tree_reading.proofs.Frame.{readable_kept}
use Rattle.be_tree_reading.proofs.Items.{items_count}
use Rattle.be_tree_reading.proofs.Reading.Cursors.{leads_down}
use Rattle.be_tree_reading.proofs.about.step_down.Given.{Over}
use Rattle.be_tree_reading.proofs.about.step_down.Goals as goal
use Rattle.be_tree_reading.proofs.about.step_down.Goals.{After-branch_to-number}

pub word-count-requires-clause-readable : goal.word-count-requires-clause-readable
word-count-requires-clause-readable g c = readable_kept (g.L.Look.page_state c.args.look.now c.args.page) c.requires.inner.1.1.1.1.page_in_use

-- the words are those at the call
read : (g : Over) (c : After-branch_to-number g) → g.L.Look.words c.branch_to-number.new.look ≡ g.L.Look.words c.args.look.now
read g c = c.branch_to-number.ensures.unchanged.words ∙ c.word-count.ensures.words

pub branch_to-number-requires-clause-page : goal.branch_to-number-requires-clause-page
branch_to-number-requires-clause-page g c = subst (λ (w : ℕ → ℕ → ℕ). IsPage (w c.args.page)) (sym c.word-count.ensures.words) c.requires.inner.1.1.1.1.node.is_page

pub branch_to-number-requires-clause-some : goal.branch_to-number-requires-clause-some
branch_to-number-requires-clause-some g c =
    let tree = c.requires.inner.1.1.1 in
    subst (λ (w : ℕ → ℕ → ℕ). 0 < w c.args.page 1) (sym c.word-count.ensures.words) (omega (arith, tree.0, tree.1.node.enough, items_count (g.L.Look.words c.args.look.now c.args.page)))

in_range : (g : Over) (c : After-branch_to-number g) → c.branch_to-number.result < g.L.Look.words c.args.look.now c.args.page 1
in_range g c = subst (λ (w : ℕ → ℕ → ℕ). c.branch_to-number.result < w c.args.page 1) c.word-count.ensures.words c.branch_to-number.ensures.in_range

pub child_at-child-requires-clause-in_page : goal.child_at-child-requires-clause-in_page
child_at-child-requires-clause-in_page g c =
    omega (arith, in_range g (goal.at.child_at-child-requires-clause-in_page g c).After-branch_to-number, c.requires.inner.1.1.1.1.node.is_page.few)

pub child_at-child-requires-clause-item : goal.child_at-child-requires-clause-item
child_at-child-requires-clause-item g c =
    let at = (goal.at.child_at-child-requires-clause-item g c).After-branch_to-number in
    subst (λ (w : ℕ → ℕ → ℕ). IsItem (w c.args.page) (2 + 42 * c.branch_to-number.result)) (sym (read g at)) (c.requires.inner.1.1.1.1.node.is_page.each c.branch_to-number.result (in_range g at))

pub child_at-child-requires-clause-names_page : goal.child_at-child-requires-clause-names_page
child_at-child-requires-clause-names_page g c =
    let at = (goal.at.child_at-child-requires-clause-names_page g c).After-branch_to-number in
    let level = c.requires.inner.0 in
    let least = c.requires.inner.1.0 in
    let lead = leads_down level (level - 1) (g.L.Look.page_state c.args.look.now) (g.L.Look.words c.args.look.now) least c.args.page c.branch_to-number.result (omega (arith, c.requires.inner.1.1.0)) c.requires.inner.1.1.1.1 (in_range g at) in
    subst (λ (w : ℕ → ℕ → ℕ). length (item_at (w c.args.page) (2 + 42 * c.branch_to-number.result)).payload ≡ 8) (sym (read g at)) lead.names_page

pub returns-clause-below : goal.returns-clause-below
returns-clause-below g c = λ level least inner some tree.
    let at = (goal.at.returns-clause-below g c).After-branch_to-number in
    let page_state = g.L.Look.page_state c.args.look.now in
    let words = g.L.Look.words c.args.look.now in
    let lead = leads_down level (level - 1) page_state words least c.args.page c.branch_to-number.result (omega (arith, inner)) tree (in_range g at) in
    let is : c.child_at-child.result ≡ child (item_at (words c.args.page) (2 + 42 * c.branch_to-number.result)) =
    c.child_at-child.ensures.child ∙ ap (λ (w : ℕ → ℕ → ℕ). child (item_at (w c.args.page) (2 + 42 * c.branch_to-number.result))) (read g at) in
    subst (λ (p : ℕ). IsTreeAt (level - 1) 1 page_state words p) (sym is) lead.tree
