use Rattle.std.proofs.Common.{◌≡◌, ℕ, suc, List, [], ◌∷◌, ◌++◌, ◌+◌, ◌-◌, ◌*◌, ◌/◌, ◌<◌, ◌≤◌, length, drop, ap, sym, subst, ◌∙◌, arith, append_assoc}
use Rattle.std.proofs.lemmas.List.{append-nil, length-append}
use Rattle.be_pages.specs.declared.room.PageState.{PageState}
use Rattle.be_tree_reading.specs.declared.cursor.Place.{Place}
use Rattle.be_tree_reading.specs.Cursor.{IsPath, pairs_along, pairs_past}
use Rattle.be_tree_reading.specs.Places.{IsBranchAt}
use Rattle.be_tree_reading.specs.Page.{items_of, item_at, IsItem}
use Rattle.be_tree_reading.specs.Range.{pairs_from}
use Rattle.be_tree_reading.specs.Tree.{IsTreeAt, child, pairs_at, minimum_of_root}
use Rattle.be_tree_reading.proofs.Reading.Cursors.{along_push, path_push, from_branch, leads_down, LeadsDown, root_pairs}
use Rattle.be_tree_reading.proofs.Frame.{unchanged_trans}
use Rattle.be_tree_reading.proofs.Shape.Heights.{height}
use Rattle.be_tree_reading.proofs.Shape.Levels.{kept_not_free}
use Rattle.be_tree_reading.proofs.Putting.Puts.{tree_weaker}
use Rattle.be_tree_reading.proofs.Shape.Roots.{root_tree, root_some}
use Rattle.be_tree_reading.proofs.Items.{items_count}
use Rattle.be_tree_reading.proofs.cursor.Cursor.descend.Given.{Over}
use Rattle.be_tree_reading.proofs.cursor.Cursor.descend.Goals as goal
use Rattle.be_tree_reading.proofs.cursor.Cursor.descend.Goals.{After-branch_in-at}

-- an empty path
empty : (path : List Place) → path ≡ [] → (page_state : ℕ → PageState) (words : ℕ → ℕ → ℕ) → IsPath page_state words path
empty path e page_state words = subst (IsPath page_state words) (sym e) (record { places = λ i d lt. absurd (omega (arith, lt)); short = λ i d lt. absurd (omega (arith, lt)) })

pub loop-level-init : goal.loop-level-init
loop-level-init g c =
    let page_state = g.L.Look.page_state c.args.look.now in
    let words = g.L.Look.words c.args.look.now in
    let page = c.args.root - 1 in
    let level = c.word-level.result in
    let e : c.args.root ≡ suc page = omega (arith, c.requires.some) in
    let tree = root_tree c.args.root page level page_state words e c.word-level.ensures.value c.requires.tree in
    record {
      least = minimum_of_root level;
      some = root_some level;
      tree = tree;
      path = empty c.clear.new.self.items c.clear.ensures page_state words;
      short = omega (arith, ap length c.clear.ensures, height level (minimum_of_root level) page_state words page (root_some level) tree (g.met.L.Look.pages_small c.args.look.now));
      same = ap (λ ps. pairs_from (pairs_at level words page) c.args.from.now c.args.after ++ pairs_along words ps) c.clear.ensures
          ∙ append-nil (pairs_from (pairs_at level words page) c.args.from.now c.args.after)
          ∙ ap (λ xs. pairs_from xs c.args.from.now c.args.after) (sym (root_pairs c.args.root page level words e c.word-level.ensures.value));
      unchanged = record { kept = c.word-level.ensures.kept; page_state = c.word-level.ensures.page_state; words = c.word-level.ensures.words };
    }

-- after the search on a page, the words are those at the call
words_same : (g : Over) (c : After-branch_in-at g) → g.L.Look.words c.branch_in-at.new.look ≡ g.L.Look.words c.args.look.now
words_same g c = c.branch_in-at.ensures.unchanged.words ∙ c.loop-level.invariant.unchanged.words

found : (g : Over) (c : After-branch_in-at g) → IsBranchAt c.args.from.now (items_of (g.L.Look.words c.args.look.now c.loop-level.page)) c.branch_in-at.result
found g c = subst (λ (w : ℕ → ℕ → ℕ). IsBranchAt c.args.from.now (items_of (w c.loop-level.page)) c.branch_in-at.result) (c.loop-level.invariant.unchanged.words) c.branch_in-at.ensures.branch

at_item : (g : Over) (c : After-branch_in-at g) → (found g c).number < g.L.Look.words c.args.look.now c.loop-level.page 1
at_item g c = omega (arith, (found g c).is_branch.before, (found g c).is_branch.is_rank.in_range, c.loop-level.invariant.tree.node.enough, c.loop-level.invariant.some, items_count (g.L.Look.words c.args.look.now c.loop-level.page))

leads : (g : Over) (c : After-branch_in-at g) → LeadsDown c.loop-level.level (c.loop-level.level - 1) (g.L.Look.page_state c.args.look.now) (g.L.Look.words c.args.look.now) c.loop-level.page (found g c).number (item_at (g.L.Look.words c.args.look.now c.loop-level.page) (2 + 42 * (found g c).number))
leads g c = leads_down c.loop-level.level (c.loop-level.level - 1) (g.L.Look.page_state c.args.look.now) (g.L.Look.words c.args.look.now) c.loop-level.invariant.least c.loop-level.page (found g c).number
    (omega (arith, c.loop-level-test.true)) c.loop-level.invariant.tree (at_item g c)

-- the number of the branch at its place
number_is : (g : Over) (c : After-branch_in-at g) → (c.branch_in-at.result - 2) / 42 ≡ (found g c).number
number_is g c = omega (arith, (found g c).is_place)

-- a page of a tree has an item
pub branch_in-at-requires-clause-some : goal.branch_in-at-requires-clause-some
branch_in-at-requires-clause-some g c =
    let i = c.loop-level.invariant in
    subst (λ (w : ℕ → ℕ → ℕ). 0 < w c.loop-level.page 1) (sym (i.unchanged.words)) (omega (arith, i.tree.node.enough, i.some, items_count (g.L.Look.words c.args.look.now c.loop-level.page)))

pub item_number-next-requires : goal.item_number-next-requires
item_number-next-requires g c = omega (arith, (found g (goal.at.item_number-next-requires g c).After-branch_in-at).is_place)

pub child_at-child-requires-clause-in_page : goal.child_at-child-requires-clause-in_page
child_at-child-requires-clause-in_page g c =
    let at = (goal.at.child_at-child-requires-clause-in_page g c).After-branch_in-at in
    omega (arith, at_item g at, (found g at).is_place, c.loop-level.invariant.tree.node.is_page.few)

pub child_at-child-requires-clause-item : goal.child_at-child-requires-clause-item
child_at-child-requires-clause-item g c =
    let at = (goal.at.child_at-child-requires-clause-item g c).After-branch_in-at in
    subst (λ (w : ℕ → ℕ → ℕ). IsItem (w c.loop-level.page) c.branch_in-at.result) (sym (words_same g at))
    (subst (λ (p : ℕ). IsItem (g.L.Look.words c.args.look.now c.loop-level.page) p) (sym (found g at).is_place) (c.loop-level.invariant.tree.node.is_page.each (found g at).number (at_item g at)))

pub child_at-child-requires-clause-names_page : goal.child_at-child-requires-clause-names_page
child_at-child-requires-clause-names_page g c =
    let at = (goal.at.child_at-child-requires-clause-names_page g c).After-branch_in-at in
    subst (λ (w : ℕ → ℕ → ℕ). length (item_at (w c.loop-level.page) c.branch_in-at.result).payload ≡ 8) (sym (words_same g at))
    (subst (λ (p : ℕ). length (item_at (g.L.Look.words c.args.look.now c.loop-level.page) p).payload ≡ 8) (sym (found g at).is_place) (leads g at).names_page)

pub overflow_add-next : goal.overflow_add-next
overflow_add-next g c =
    let at = (goal.at.overflow_add-next g c).After-branch_in-at in
    omega (arith, c.item_number-next.ensures, number_is g at, at_item g at, c.loop-level.invariant.tree.node.is_page.few)

-- a page in use has a small number, an item's number is at most 12, and no level is above 13
pub overflow_cast-page : goal.overflow_cast-page
overflow_cast-page g c =
    let i = c.loop-level.invariant in
    omega (arith, g.met.L.Look.pages_small c.args.look.now c.loop-level.page (kept_not_free (g.L.Look.page_state c.args.look.now c.loop-level.page) i.tree.page_in_use))

pub overflow_cast-next : goal.overflow_cast-next
overflow_cast-next g c =
    let at = (goal.at.overflow_cast-next g c).After-branch_in-at in
    omega (arith, c.item_number-next.ensures, number_is g at, at_item g at, c.loop-level.invariant.tree.node.is_page.few)

pub overflow_cast-level : goal.overflow_cast-level
overflow_cast-level g c = omega (arith, c.loop-level.invariant.short)

pub loop-level-preserved : goal.loop-level-preserved
loop-level-preserved g c =
    let at = (goal.at.loop-level-preserved g c).After-branch_in-at in
    let page_state = g.L.Look.page_state c.args.look.now in
    let words = g.L.Look.words c.args.look.now in
    let page = c.loop-level.page in
    let level = c.loop-level.level in
    let down = level - 1 in
    let next = (found g at).number in
    let path = c.loop-level.self.path.items in
    let branch = item_at (words page) (2 + 42 * next) in
    let place : Place = record { page = page; next = next + 1; level = level } in
    let lead = leads g at in
    let is = c.child_at-child.ensures.child ∙ ap (λ (w : ℕ → ℕ → ℕ). child (item_at (w page) c.branch_in-at.result)) (words_same g at) ∙ ap (λ (p : ℕ). child (item_at (words page) p)) (found g at).is_place in
    let pushed : c.push.new.self.items ≡ path ++ place ∷ [] =
    c.push.ensures.items ∙ ap (λ (n : ℕ). path ++ record { page = page; next = n + 1; level = level } ∷ []) (c.item_number-next.ensures ∙ number_is g at) in
    let here = pairs_from (pairs_at down words (child branch)) c.args.from.now c.args.after in
    record {
      least = 1;
      some = omega arith;
      tree = subst (λ p. IsTreeAt down 1 page_state words p) (sym is) lead.tree;
      path = subst (IsPath page_state words) (sym pushed) (path_push page_state words path place c.loop-level.invariant.path
          (record { tree = tree_weaker level c.loop-level.invariant.least page_state words page c.loop-level.invariant.some c.loop-level.invariant.tree; in_range = omega (arith, at_item g at, items_count (words page)) })
          c.loop-level.invariant.short);
      short = omega (arith, c.loop-level.invariant.short, c.loop-level-test.true, ap length pushed, length-append path (place ∷ []));
      same = ap (λ p. pairs_from (pairs_at down words p) c.args.from.now c.args.after ++ pairs_along words c.push.new.self.items) is
          ∙ ap (λ ps. here ++ pairs_along words ps) pushed
          ∙ ap (λ xs. here ++ xs) (along_push words path place)
          ∙ sym (append_assoc here (pairs_past words place) (pairs_along words path))
          ∙ ap (λ xs. xs ++ pairs_along words path) (sym (from_branch level down page_state words c.loop-level.invariant.least page c.args.from.now (found g at).is_branch.rank next c.args.after
          (omega (arith, c.loop-level-test.true)) c.loop-level.invariant.tree c.loop-level.invariant.some (found g at).is_branch.is_rank (found g at).is_branch.before (at_item g at)))
          ∙ c.loop-level.invariant.same;
      unchanged = unchanged_trans g.L.Look.kept g.L.Look.page_state g.L.Look.words c.args.look.now c.branch_in-at.new.look c.child_at-child.new.look
          (unchanged_trans g.L.Look.kept g.L.Look.page_state g.L.Look.words c.args.look.now c.loop-level.look c.branch_in-at.new.look c.loop-level.invariant.unchanged c.branch_in-at.ensures.unchanged) c.child_at-child.ensures.unchanged;
    }

-- the leaf that the descent reached
pub returns-clause-leaf : goal.returns-clause-leaf
returns-clause-leaf g c =
    let page_state = g.L.Look.page_state c.args.look.now in
    let words = g.L.Look.words c.args.look.now in
    let i = c.loop-level.invariant in
    let leaf : c.loop-level.level ≡ 0 = omega (arith, c.loop-level-test.false) in
    subst (λ l. IsTreeAt l 1 page_state words c.loop-level.page) leaf (tree_weaker c.loop-level.level i.least page_state words c.loop-level.page i.some i.tree)

pub returns-clause-in_range : goal.returns-clause-in_range
returns-clause-in_range g c =
    let words = g.L.Look.words c.args.look.now in
    let in_range = subst (λ (w : ℕ → ℕ → ℕ). c.leaf_from-next.result ≤ length (items_of (w c.loop-level.page))) c.loop-level.invariant.unchanged.words c.leaf_from-next.ensures.in_range in
    omega (arith, in_range, items_count (words c.loop-level.page))

pub returns-clause-parts : goal.returns-clause-parts
returns-clause-parts g c =
    let words = g.L.Look.words c.args.look.now in
    let page = c.loop-level.page in
    let path = c.loop-level.self.path.items in
    let leaf : c.loop-level.level ≡ 0 = omega (arith, c.loop-level-test.false) in
    let rest = subst (λ (w : ℕ → ℕ → ℕ). drop c.leaf_from-next.result (items_of (w page)) ≡ pairs_from (items_of (w page)) c.args.from.now c.args.after) c.loop-level.invariant.unchanged.words c.leaf_from-next.ensures.rest in
    sym (ap (λ xs. xs ++ pairs_along words path) (rest ∙ ap (λ l. pairs_from (pairs_at l words page) c.args.from.now c.args.after) (sym leaf))
    ∙ c.loop-level.invariant.same)

pub returns-clause-short : goal.returns-clause-short
returns-clause-short g c = omega (arith, c.loop-level.invariant.short)
