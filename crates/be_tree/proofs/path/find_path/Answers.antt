use Rattle.std.proofs.Common.{◌≡◌, ◌∙◌, suc, ◌-◌, ◌<◌, [], ◌∷◌, ◌++◌, length, All, Result, Ok, Err, IfOk, IfErr, refl, ap, sym, subst, ℕ, arith}
use Rattle.std.proofs.lemmas.List.{length-append}
use Rattle.std.proofs.lemmas.List.Elements.{All-append}
use Rattle.std.specs.declared.cmp.Ordering.TheVariants.{Equal}
use Rattle.be_tree.specs.declared.path.Step.{Step}
use Rattle.be_tree_reading.specs.Key.{IsBranchFor, IsGap, key_cmp}
use Rattle.be_tree_reading.specs.Page.{items_of, item_at, item_place, IsItem}
use Rattle.be_tree.specs.Path.{IsStep, IsWay}
use Rattle.be_tree_reading.specs.Places.{IsBranchAt}
use Rattle.be_tree_reading.specs.Tree.{IsTreeAt, child, minimum_of_root}
use Rattle.be_tree_reading.proofs.Frame.{unchanged_trans}
use Rattle.be_tree_reading.proofs.Items.{items_count}
use Rattle.be_tree_reading.proofs.Reading.Starts.{number_back}
use Rattle.be_tree_reading.proofs.Shape.Heights.{height}
use Rattle.be_tree.proofs.Shape.Parts.{all_one}
use Rattle.be_tree_reading.proofs.Shape.Roots.{root_tree, root_some}
use Rattle.be_tree.proofs.Ways.{branch_child, branch_names, way_push}
use Rattle.be_tree.proofs.path.find_path.Given.{Over}
use Rattle.be_tree.proofs.path.find_path.Goals as goal
use Rattle.be_tree.proofs.path.find_path.Goals.{After-branch_in-place}

pub loop-level-init : goal.loop-level-init
loop-level-init g c =
    let page_state = g.L.Look.page_state c.args.look.now in
    let words = g.L.Look.words c.args.look.now in
    let page = c.args.root - 1 in
    let level = c.word-level.result in
    let e : c.args.root ≡ suc page = omega (arith, c.requires.some) in
    let tree = root_tree c.args.root page level page_state words e c.word-level.ensures.value c.requires.tree in
    record {
      least = minimum_of_root level;
      some = root_some level;
      tree = tree;
      way = subst (λ steps. IsWay words page steps page) (sym c.requires.empty) refl;
      branches = subst (All (λ step. IsBranchFor c.args.key.now (items_of (words step.page)) step.at)) (sym c.requires.empty) (λ i d lt. absurd (omega (arith, lt)));
      short = omega (arith, ap length c.requires.empty, height level (minimum_of_root level) page_state words page (root_some level) tree (g.met.L.Look.pages_small c.args.look.now));
      unchanged = record { kept = c.word-level.ensures.kept; page_state = c.word-level.ensures.page_state; words = c.word-level.ensures.words };
    }

-- after the search on a page, the words are those at the call
words_same : (g : Over) (c : After-branch_in-place g) → g.L.Look.words c.branch_in-place.new.look ≡ g.L.Look.words c.args.look.now
words_same g c = c.branch_in-place.ensures.unchanged.words ∙ c.loop-level.invariant.unchanged.words

found : (g : Over) (c : After-branch_in-place g) → IsBranchAt c.args.key.now (items_of (g.L.Look.words c.args.look.now c.loop-level.page)) c.branch_in-place.result
found g c =
    subst (λ (w : ℕ → ℕ → ℕ). IsBranchAt c.args.key.now (items_of (w c.loop-level.page)) c.branch_in-place.result) (c.loop-level.invariant.unchanged.words)
    c.branch_in-place.ensures.branch

at_item : (g : Over) (c : After-branch_in-place g) → (found g c).number < g.L.Look.words c.args.look.now c.loop-level.page 1
at_item g c =
    let branch = (found g c).is_branch in
    omega (arith, branch.before, branch.is_rank.in_range, c.loop-level.invariant.tree.node.enough, c.loop-level.invariant.some, items_count (g.L.Look.words c.args.look.now c.loop-level.page))

inner : (g : Over) (c : After-branch_in-place g) → IsTreeAt (suc (c.loop-level.level - 1)) c.loop-level.invariant.least (g.L.Look.page_state c.args.look.now) (g.L.Look.words c.args.look.now) c.loop-level.page
inner g c =
    let e : c.loop-level.level ≡ suc (c.loop-level.level - 1) = omega (arith, c.loop-level-test.true) in
    subst (λ n. IsTreeAt n c.loop-level.invariant.least (g.L.Look.page_state c.args.look.now) (g.L.Look.words c.args.look.now) c.loop-level.page) e c.loop-level.invariant.tree

-- a page of a tree has an item
pub branch_in-place-requires-clause-some : goal.branch_in-place-requires-clause-some
branch_in-place-requires-clause-some g c =
    let i = c.loop-level.invariant in
    subst (λ (w : ℕ → ℕ → ℕ). 0 < w c.loop-level.page 1) (sym (i.unchanged.words)) (omega (arith, i.tree.node.enough, i.some, items_count (g.L.Look.words c.args.look.now c.loop-level.page)))

pub item_number-at-requires : goal.item_number-at-requires
item_number-at-requires g c = omega (arith, (found g (goal.at.item_number-at-requires g c).After-branch_in-place).is_place)

pub child_at-page-requires-clause-in_page : goal.child_at-page-requires-clause-in_page
child_at-page-requires-clause-in_page g c =
    let at = (goal.at.child_at-page-requires-clause-in_page g c).After-branch_in-place in
    omega (arith, at_item g at, (found g at).is_place, c.loop-level.invariant.tree.node.is_page.few)

pub child_at-page-requires-clause-item : goal.child_at-page-requires-clause-item
child_at-page-requires-clause-item g c =
    let at = (goal.at.child_at-page-requires-clause-item g c).After-branch_in-place in
    subst (λ (w : ℕ → ℕ → ℕ). IsItem (w c.loop-level.page) c.branch_in-place.result) (sym (words_same g at))
    (subst (λ (p : ℕ). IsItem (g.L.Look.words c.args.look.now c.loop-level.page) p) (sym (found g at).is_place) (c.loop-level.invariant.tree.node.is_page.each (found g at).number (at_item g at)))

pub child_at-page-requires-clause-names_page : goal.child_at-page-requires-clause-names_page
child_at-page-requires-clause-names_page g c =
    let at = (goal.at.child_at-page-requires-clause-names_page g c).After-branch_in-place in
    subst (λ (w : ℕ → ℕ → ℕ). length (item_at (w c.loop-level.page) c.branch_in-place.result).payload ≡ 8) (sym (words_same g at))
    (subst (λ (p : ℕ). length (item_at (g.L.Look.words c.args.look.now c.loop-level.page) p).payload ≡ 8) (sym (found g at).is_place)
    (branch_names (c.loop-level.level - 1) c.loop-level.invariant.least (g.L.Look.page_state c.args.look.now) (g.L.Look.words c.args.look.now) c.loop-level.page (found g at).number (inner g at) (at_item g at)).names_page)

pub loop-level-preserved : goal.loop-level-preserved
loop-level-preserved g c =
    let at = (goal.at.loop-level-preserved g c).After-branch_in-place in
    let of = found g at in
    let page_state = g.L.Look.page_state c.args.look.now in
    let words = g.L.Look.words c.args.look.now in
    let page = c.loop-level.page in
    let down = c.loop-level.level - 1 in
    let next = c.item_number-at.result in
    let is_next : next ≡ of.number = c.item_number-at.ensures ∙ number_back c.branch_in-place.result of.number of.is_place in
    let lt : next < words page 1 = omega (arith, is_next, at_item g at) in
    let steps = c.loop-level.path.above.items in
    let step : Step = record { page = page; at = next } in
    let i = c.loop-level.invariant in
    let is = c.child_at-page.ensures.child ∙ ap (λ (w : ℕ → ℕ → ℕ). child (item_at (w page) c.branch_in-place.result)) (words_same g at)
    ∙ ap (λ (p : ℕ). child (item_at (words page) p)) (of.is_place ∙ ap item_place (sym is_next)) in
    let here : IsStep words page step = record { is_page = refl; inner = omega (arith, i.tree.node.at_level, c.loop-level-test.true); in_range = lt } in
    let for = λ (s : Step). IsBranchFor c.args.key.now (items_of (words s.page)) s.at in
    let is_for = subst (λ (n : ℕ). IsBranchFor c.args.key.now (items_of (words page)) n) (sym is_next) of.is_branch in
    record {
      least = 6;
      some = omega arith;
      tree = subst (λ p. IsTreeAt down 6 page_state words p) (sym is) (branch_child down i.least page_state words page next (inner g at) lt);
      way = subst (λ xs. IsWay words (c.args.root - 1) xs c.child_at-page.result) (sym c.push.ensures.items) (subst (λ p. IsWay words (c.args.root - 1) (steps ++ step ∷ []) p) (sym is) (way_push words (c.args.root - 1) steps page step i.way here));
      branches = subst (All for) (sym c.push.ensures.items) (All-append for steps (step ∷ []) i.branches (all_one for step is_for));
      short = omega (arith, i.short, c.loop-level-test.true, ap length c.push.ensures.items, length-append steps (step ∷ []));
      unchanged = unchanged_trans g.L.Look.kept g.L.Look.page_state g.L.Look.words c.args.look.now c.branch_in-place.new.look c.child_at-page.new.look
          (unchanged_trans g.L.Look.kept g.L.Look.page_state g.L.Look.words c.args.look.now c.loop-level.look c.branch_in-place.new.look i.unchanged c.branch_in-place.ensures.unchanged) c.child_at-page.ensures.unchanged;
    }

both_ok : {T E : Type 0} (P Q : T → Type 0) (r : Result T E) → IfOk r P → IfOk r Q → IfOk r (λ a. P a × Q a)
both_ok P Q (Ok a) p q = (p, q)
both_ok P Q (Err e) p q = tt

pub returns-clause-path : goal.returns-clause-path
returns-clause-path g c =
    let i = c.loop-level.invariant in
    let page = c.loop-level.page in
    let words = g.L.Look.words c.args.look.now in
    let now = g.L.Look.words c.loop-level.look in
    let found = c.search_number-path.ensures in
    let place = c.search_number-path.result in
    record {
      way = record { tree = c.requires.tree; some = c.requires.some; way = i.way };
      branches = i.branches;
      is_leaf = omega (arith, i.tree.node.at_level, c.loop-level-test.false);
      found = subst (λ (w : ℕ → ℕ → ℕ). IfOk place (λ at. (at < w page 1) × (key_cmp (item_at (w page) (item_place at)).key c.args.key.now ≡ Equal))) i.unchanged.words
          (both_ok (λ at. at < now page 1) (λ at. key_cmp (item_at (now page) (item_place at)).key c.args.key.now ≡ Equal) place found.in_range found.same);
      absent = subst (λ (w : ℕ → ℕ → ℕ). IfErr place (IsGap c.args.key.now (items_of (w page)))) i.unchanged.words found.absent;
    }
