use Rattle.std.proofs.Common.{◌≡◌, ℕ, suc, List, [], ◌++◌, ◌+◌, ◌-◌, ◌*◌, ◌<◌, ◌≤◌, ◌⊎◌, inl, inr, false, length, drop, refl, ap, sym, subst, ◌∙◌, arith, append_assoc}
use Rattle.std.proofs.lemmas.Bool.{cases_lt}
use Rattle.std.proofs.lemmas.List.{append-nil}
use Rattle.be_pages.specs.declared.room.PageState.{PageState}
use Rattle.be_tree_reading.specs.declared.numbers.NextBranch.{NextBranch}
use Rattle.be_tree_reading.specs.Pair.{Pair}
use Rattle.be_tree_reading.specs.Page.{items_of, item_at, item_place, IsItem}
use Rattle.be_tree_reading.specs.Places.{AreFrom, IsBranchAt, IsNext}
use Rattle.be_tree_reading.specs.Range.{pairs_from}
use Rattle.be_tree_reading.specs.Tree.{IsTreeAt, child, pairs_at, pairs_below, minimum_of_root}
use Rattle.be_tree_reading.proofs.Reading.Cursors.{from_branch, leads_down, LeadsDown, root_pairs}
use Rattle.be_tree_reading.proofs.Reading.Starts.{next_above, next_here}
use Rattle.be_tree_reading.proofs.Frame.{unchanged_trans}
use Rattle.be_tree_reading.proofs.Putting.Puts.{tree_weaker}
use Rattle.be_tree_reading.proofs.Shape.Roots.{root_tree, root_some}
use Rattle.be_tree_reading.proofs.Items.{items_count}
use Rattle.be_tree_reading.proofs.numbers.first_leaf.Given.{Over}
use Rattle.be_tree_reading.proofs.numbers.first_leaf.Goals as goal
use Rattle.be_tree_reading.proofs.numbers.first_leaf.Goals.{After-branch_for-at, After-next_of-next}

pub loop-level-init : goal.loop-level-init
loop-level-init g c =
    let page_state = g.L.Look.page_state c.args.look.now in
    let words = g.L.Look.words c.args.look.now in
    let page = c.args.root - 1 in
    let level = c.word-level.result in
    let e : c.args.root ≡ suc page = omega (arith, c.requires.some) in
    record {
      least = minimum_of_root level;
      some = root_some level;
      tree = root_tree c.args.root page level page_state words e c.word-level.ensures.value c.requires.tree;
      rest = [];
      same = append-nil (pairs_from (pairs_at level words page) c.args.low.now false)
          ∙ ap (λ xs. pairs_from xs c.args.low.now false) (sym (root_pairs c.args.root page level words e c.word-level.ensures.value));
      next = record {
        none = λ _. refl;
        starts = λ lt. absurd (omega (arith, lt));
        is_item = λ lt. absurd (omega (arith, lt));
        in_page = omega arith;
        readable = λ lt. absurd (omega (arith, lt));
      };
      unchanged = record { kept = c.word-level.ensures.kept; page_state = c.word-level.ensures.page_state; words = c.word-level.ensures.words };
    }

-- after the search on a page, the words are those at the call
words_same : (g : Over) (c : After-branch_for-at g) → g.L.Look.words c.branch_for-at.new.look ≡ g.L.Look.words c.args.look.now
words_same g c = c.branch_for-at.ensures.unchanged.words ∙ c.end_of-end.ensures.unchanged.words ∙ c.loop-level.invariant.unchanged.words

found : (g : Over) (c : After-branch_for-at g) → IsBranchAt c.args.low.now (items_of (g.L.Look.words c.args.look.now c.loop-level.page)) c.branch_for-at.result
found g c = subst (λ (w : ℕ → ℕ → ℕ). IsBranchAt c.args.low.now (items_of (w c.loop-level.page)) c.branch_for-at.result) (c.end_of-end.ensures.unchanged.words ∙ c.loop-level.invariant.unchanged.words) c.branch_for-at.ensures.branch

at_item : (g : Over) (c : After-branch_for-at g) → (found g c).number < g.L.Look.words c.args.look.now c.loop-level.page 1
at_item g c = omega (arith, (found g c).is_branch.before, (found g c).is_branch.is_rank.in_range, c.loop-level.invariant.tree.node.enough, c.loop-level.invariant.some, items_count (g.L.Look.words c.args.look.now c.loop-level.page))

leads : (g : Over) (c : After-branch_for-at g) → LeadsDown c.loop-level.level (c.loop-level.level - 1) (g.L.Look.page_state c.args.look.now) (g.L.Look.words c.args.look.now) c.loop-level.page (found g c).number (item_at (g.L.Look.words c.args.look.now c.loop-level.page) (2 + 42 * (found g c).number))
leads g c = leads_down c.loop-level.level (c.loop-level.level - 1) (g.L.Look.page_state c.args.look.now) (g.L.Look.words c.args.look.now) c.loop-level.invariant.least c.loop-level.page (found g c).number
    (omega (arith, c.loop-level-test.true)) c.loop-level.invariant.tree (at_item g c)

-- a page of a tree has an item
pub branch_for-at-requires-clause-some : goal.branch_for-at-requires-clause-some
branch_for-at-requires-clause-some g c =
    let i = c.loop-level.invariant in
    subst (λ (w : ℕ → ℕ → ℕ). 0 < w c.loop-level.page 1) (sym (c.end_of-end.ensures.unchanged.words ∙ i.unchanged.words)) (omega (arith, i.tree.node.enough, i.some, items_count (g.L.Look.words c.args.look.now c.loop-level.page)))

pub branch_for-at-requires-clause-end : goal.branch_for-at-requires-clause-end
branch_for-at-requires-clause-end g c = c.end_of-end.ensures.end ∙ sym (ap (λ (w : ℕ → ℕ → ℕ). 2 + 42 * w c.loop-level.page 1) c.end_of-end.ensures.unchanged.words)

pub child_at-page-requires-clause-in_page : goal.child_at-page-requires-clause-in_page
child_at-page-requires-clause-in_page g c =
    let at = (goal.at.child_at-page-requires-clause-in_page g c).After-branch_for-at in
    omega (arith, at_item g at, (found g at).is_place, c.loop-level.invariant.tree.node.is_page.few)

pub child_at-page-requires-clause-item : goal.child_at-page-requires-clause-item
child_at-page-requires-clause-item g c =
    let at = (goal.at.child_at-page-requires-clause-item g c).After-branch_for-at in
    subst (λ (w : ℕ → ℕ → ℕ). IsItem (w c.loop-level.page) c.branch_for-at.result) (sym (words_same g at))
    (subst (λ (p : ℕ). IsItem (g.L.Look.words c.args.look.now c.loop-level.page) p) (sym (found g at).is_place) (c.loop-level.invariant.tree.node.is_page.each (found g at).number (at_item g at)))

pub child_at-page-requires-clause-names_page : goal.child_at-page-requires-clause-names_page
child_at-page-requires-clause-names_page g c =
    let at = (goal.at.child_at-page-requires-clause-names_page g c).After-branch_for-at in
    subst (λ (w : ℕ → ℕ → ℕ). length (item_at (w c.loop-level.page) c.branch_for-at.result).payload ≡ 8) (sym (words_same g at))
    (subst (λ (p : ℕ). length (item_at (g.L.Look.words c.args.look.now c.loop-level.page) p).payload ≡ 8) (sym (found g at).is_place) (leads g at).names_page)

pub overflow_add-at : goal.overflow_add-at
overflow_add-at g c =
    let at = (goal.at.overflow_add-at g c).After-branch_for-at in
    omega (arith, at_item g at, (found g at).is_place, c.loop-level.invariant.tree.node.is_page.few)

-- the pairs below the branches after the one that the descent takes
after : (g : Over) (c : After-branch_for-at g) → List Pair
after g c = pairs_below c.loop-level.level (g.L.Look.words c.args.look.now) (drop ((found g c).number + 1) (items_of (g.L.Look.words c.args.look.now c.loop-level.page)))

ends : (g : Over) (c : After-branch_for-at g) → c.end_of-end.result ≡ item_place (g.L.Look.words c.args.look.now c.loop-level.page 1)
ends g c = c.end_of-end.ensures.end ∙ ap (λ (w : ℕ → ℕ → ℕ). 2 + 42 * w c.loop-level.page 1) c.loop-level.invariant.unchanged.words

next_is : (g : Over) (b : After-branch_for-at g) (next : NextBranch)
    → (b.branch_for-at.result + 42 < b.end_of-end.result → next ≡ record { page = b.loop-level.page; place = b.branch_for-at.result + 42 })
    → (b.end_of-end.result ≤ b.branch_for-at.result + 42 → next ≡ b.loop-level.next)
    → IsNext (g.L.Look.page_state b.args.look.now) (g.L.Look.words b.args.look.now) next.page next.place (after g b ++ b.loop-level.invariant.rest)
unfolding after
next_is g b next here above = by (cases_lt ((found g b).number + 1) (g.L.Look.words b.args.look.now b.loop-level.page 1))
  where
    page_state : ℕ → PageState
    page_state = g.L.Look.page_state b.args.look.now

    words : ℕ → ℕ → ℕ
    words = g.L.Look.words b.args.look.now

    down : b.loop-level.level ≡ suc (b.loop-level.level - 1)
    down = omega (arith, b.loop-level-test.true)

    by : ((found g b).number + 1 < words b.loop-level.page 1) ⊎ (words b.loop-level.page 1 ≤ (found g b).number + 1)
        → IsNext page_state words next.page next.place (after g b ++ b.loop-level.invariant.rest)
    by (inl lt) =
        let place : b.branch_for-at.result + 42 ≡ item_place ((found g b).number + 1) = omega (arith, (found g b).is_place) in
        subst (λ (n : NextBranch). IsNext page_state words n.page n.place (after g b ++ b.loop-level.invariant.rest))
        (sym (here (omega (arith, lt, ends g b, (found g b).is_place)) ∙ ap (λ (p : ℕ). record { page = b.loop-level.page; place = p }) place))
        (next_here b.loop-level.level (b.loop-level.level - 1) page_state words b.loop-level.invariant.least b.loop-level.page ((found g b).number + 1) b.loop-level.invariant.rest down b.loop-level.invariant.tree lt)
    by (inr ge) =
        subst (λ (n : NextBranch). IsNext page_state words n.page n.place (after g b ++ b.loop-level.invariant.rest))
        (sym (above (omega (arith, ge, ends g b, (found g b).is_place))))
        (next_above b.loop-level.level (b.loop-level.level - 1) page_state words b.loop-level.invariant.least b.loop-level.page ((found g b).number + 1) b.loop-level.invariant.rest b.loop-level.next.page b.loop-level.next.place ge b.loop-level.invariant.next)

pub loop-level-preserved : goal.loop-level-preserved
unfolding found after
loop-level-preserved g c =
    let at = (goal.at.loop-level-preserved g c).After-branch_for-at in
    let page_state = g.L.Look.page_state c.args.look.now in
    let words = g.L.Look.words c.args.look.now in
    let i = c.loop-level.invariant in
    let page = c.loop-level.page in
    let level = c.loop-level.level in
    let down = level - 1 in
    let number = (found g at).number in
    let branch = item_at (words page) (2 + 42 * number) in
    let lead = leads g at in
    let is = c.child_at-page.ensures.child ∙ ap (λ (w : ℕ → ℕ → ℕ). child (item_at (w page) c.branch_for-at.result)) (words_same g at) ∙ ap (λ (p : ℕ). child (item_at (words page) p)) (found g at).is_place in
    let here = pairs_from (pairs_at down words (child branch)) c.args.low.now false in
    record {
      least = 1;
      some = omega arith;
      tree = subst (λ p. IsTreeAt down 1 page_state words p) (sym is) lead.tree;
      rest = after g at ++ i.rest;
      same = ap (λ p. pairs_from (pairs_at down words p) c.args.low.now false ++ (after g at ++ i.rest)) is
          ∙ sym (append_assoc here (after g at) i.rest)
          ∙ ap (λ xs. xs ++ i.rest) (sym (from_branch level down page_state words i.least page c.args.low.now (found g at).is_branch.rank number false
          (omega (arith, c.loop-level-test.true)) i.tree i.some (found g at).is_branch.is_rank (found g at).is_branch.before (at_item g at)))
          ∙ i.same;
      next = next_is g at c.next_of-next.result c.next_of-next.ensures.here c.next_of-next.ensures.above;
      unchanged = unchanged_trans g.L.Look.kept g.L.Look.page_state g.L.Look.words c.args.look.now c.branch_for-at.new.look c.child_at-page.new.look
          (unchanged_trans g.L.Look.kept g.L.Look.page_state g.L.Look.words c.args.look.now c.end_of-end.new.look c.branch_for-at.new.look
          (unchanged_trans g.L.Look.kept g.L.Look.page_state g.L.Look.words c.args.look.now c.loop-level.look c.end_of-end.new.look i.unchanged c.end_of-end.ensures.unchanged) c.branch_for-at.ensures.unchanged) c.child_at-page.ensures.unchanged;
    }

-- the leaf that the descent reached
pub first_from-at-requires-clause-leaf : goal.first_from-at-requires-clause-leaf
first_from-at-requires-clause-leaf g c =
    let i = c.loop-level.invariant in
    let leaf : c.loop-level.level ≡ 0 = omega (arith, c.loop-level-test.false) in
    subst (λ (w : ℕ → ℕ → ℕ). IsTreeAt 0 1 (g.L.Look.page_state c.loop-level.look) w c.loop-level.page) (sym i.unchanged.words)
    (subst (λ (s : ℕ → PageState). IsTreeAt 0 1 s (g.L.Look.words c.args.look.now) c.loop-level.page) (sym i.unchanged.page_state)
    (subst (λ l. IsTreeAt l 1 (g.L.Look.page_state c.args.look.now) (g.L.Look.words c.args.look.now) c.loop-level.page) leaf
    (tree_weaker c.loop-level.level i.least (g.L.Look.page_state c.args.look.now) (g.L.Look.words c.args.look.now) c.loop-level.page i.some i.tree)))

pub returns-clause-leaf : goal.returns-clause-leaf
returns-clause-leaf g c =
    let page_state = g.L.Look.page_state c.args.look.now in
    let words = g.L.Look.words c.args.look.now in
    let i = c.loop-level.invariant in
    let leaf : c.loop-level.level ≡ 0 = omega (arith, c.loop-level-test.false) in
    subst (λ l. IsTreeAt l 1 page_state words c.loop-level.page) leaf (tree_weaker c.loop-level.level i.least page_state words c.loop-level.page i.some i.tree)

pub returns-clause-from : goal.returns-clause-from
returns-clause-from g c =
    let words = g.L.Look.words c.args.look.now in
    let page = c.loop-level.page in
    let low = c.args.low.now in
    let i = c.loop-level.invariant in
    let leaf : c.loop-level.level ≡ 0 = omega (arith, c.loop-level-test.false) in
    let of = subst (λ (w : ℕ → ℕ → ℕ). AreFrom w page c.first_from-at.result (pairs_from (items_of (w page)) low false) []) i.unchanged.words c.first_from-at.ensures.from in (
      i.rest,
      (
        record {
          number = of.number;
          is_place = of.is_place;
          in_range = of.in_range;
          parts = sym i.same
              ∙ ap (λ xs. xs ++ i.rest) (ap (λ l. pairs_from (pairs_at l words page) low false) leaf ∙ of.parts ∙ append-nil (drop of.number (items_of (words page))));
        },
        i.next,
      ),
    )
