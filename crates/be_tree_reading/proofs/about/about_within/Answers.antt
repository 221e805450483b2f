use Rattle.std.proofs.Common.{◌≡◌, ◌∙◌, ℕ, suc, ◌-◌, sym, subst, arith}
use Rattle.be_pages.specs.declared.room.PageState.{PageState}
use Rattle.be_tree_reading.specs.Tree.{IsTreeAt, minimum_of_root}
use Rattle.be_tree_reading.proofs.Frame.{unchanged_trans}
use Rattle.be_tree_reading.proofs.Putting.Puts.{tree_weaker}
use Rattle.be_tree_reading.proofs.Shape.Roots.{root_some, root_tree}
use Rattle.be_tree_reading.proofs.about.about_within.Goals as goal

-- a tree after pages were only read
tree_read : (s t : ℕ → PageState) (v w : ℕ → ℕ → ℕ) (level least page : ℕ) → t ≡ s → w ≡ v → IsTreeAt level least s v page → IsTreeAt level least t w page
tree_read s t v w level least page es ew tree =
    subst (λ (u : ℕ → ℕ → ℕ). IsTreeAt level least t u page) (sym ew) (subst (λ (r : ℕ → PageState). IsTreeAt level least r v page) (sym es) tree)

pub loop-level-init : goal.loop-level-init
loop-level-init g c =
    let page_state = g.L.Look.page_state c.args.look.now in
    let words = g.L.Look.words c.args.look.now in
    let level = c.word-level.result in
    let page = c.args.root - 1 in
    let e : c.args.root ≡ suc page = omega (arith, c.if-root-eq0.false) in
    let tree = root_tree c.args.root page level page_state words e c.word-level.ensures.value c.requires.tree in
    record {
      left_minimum = minimum_of_root level;
      left_some = root_some level;
      left_tree = tree;
      right_minimum = minimum_of_root level;
      right_some = root_some level;
      right_tree = tree;
      unchanged = record { kept = c.word-level.ensures.kept; page_state = c.word-level.ensures.page_state; words = c.word-level.ensures.words };
    }

pub step_down-low_page-requires : goal.step_down-low_page-requires
step_down-low_page-requires g c =
    let i = c.loop-level.invariant in
    record {
      inner = (
        c.loop-level.level,
        (
          i.left_minimum,
          (
            c.loop-level-test.true,
            (
              i.left_some,
              tree_read (g.L.Look.page_state c.args.look.now) (g.L.Look.page_state c.loop-level.look) (g.L.Look.words c.args.look.now) (g.L.Look.words c.loop-level.look) c.loop-level.level i.left_minimum c.loop-level.left
                  i.unchanged.page_state i.unchanged.words i.left_tree,
            ),
          ),
        ),
      );
    }

pub step_down-high_page-requires : goal.step_down-high_page-requires
step_down-high_page-requires g c =
    let i = c.loop-level.invariant in
    let now = c.step_down-low_page.new.look in
    let is = c.step_down-low_page.ensures.unchanged in
    record {
      inner = (
        c.loop-level.level,
        (
          i.right_minimum,
          (
            c.loop-level-test.true,
            (
              i.right_some,
              tree_read (g.L.Look.page_state c.args.look.now) (g.L.Look.page_state now) (g.L.Look.words c.args.look.now) (g.L.Look.words now) c.loop-level.level i.right_minimum c.loop-level.right
                  (is.page_state ∙ i.unchanged.page_state) (is.words ∙ i.unchanged.words) i.right_tree,
            ),
          ),
        ),
      );
    }

pub loop-level-preserved : goal.loop-level-preserved
loop-level-preserved g c =
    let page_state = g.L.Look.page_state c.args.look.now in
    let words = g.L.Look.words c.args.look.now in
    let i = c.loop-level.invariant in
    let level = c.loop-level.level in
    let was = c.loop-level.look in
    let now = c.step_down-low_page.new.look in
    let is = c.step_down-low_page.ensures.unchanged in
    let left_there = tree_read page_state (g.L.Look.page_state was) words (g.L.Look.words was) level i.left_minimum c.loop-level.left i.unchanged.page_state i.unchanged.words i.left_tree in
    let right_there = tree_read page_state (g.L.Look.page_state now) words (g.L.Look.words now) level i.right_minimum c.loop-level.right (is.page_state ∙ i.unchanged.page_state) (is.words ∙ i.unchanged.words) i.right_tree in
    record {
      left_minimum = 1;
      left_some = omega arith;
      left_tree = tree_read (g.L.Look.page_state was) page_state (g.L.Look.words was) words (level - 1) 1 c.step_down-low_page.result.0 (sym i.unchanged.page_state) (sym i.unchanged.words)
          (c.step_down-low_page.ensures.below level i.left_minimum c.loop-level-test.true i.left_some left_there);
      right_minimum = 1;
      right_some = omega arith;
      right_tree = tree_read (g.L.Look.page_state now) page_state (g.L.Look.words now) words (level - 1) 1 c.step_down-high_page.result.0 (sym (is.page_state ∙ i.unchanged.page_state)) (sym (is.words ∙ i.unchanged.words))
          (c.step_down-high_page.ensures.below level i.right_minimum c.loop-level-test.true i.right_some right_there);
      unchanged = unchanged_trans g.L.Look.kept g.L.Look.page_state g.L.Look.words c.args.look.now now c.step_down-high_page.new.look
          (unchanged_trans g.L.Look.kept g.L.Look.page_state g.L.Look.words c.args.look.now was now i.unchanged is) c.step_down-high_page.ensures.unchanged;
    }

-- both leaves
pub end_in-low_end-requires : goal.end_in-low_end-requires
end_in-low_end-requires g c =
    let i = c.loop-level.invariant in
    let leaf : c.loop-level.level ≡ 0 = omega (arith, c.loop-level-test.false) in
    let page_state = g.L.Look.page_state c.args.look.now in
    let words = g.L.Look.words c.args.look.now in
    let tree = subst (λ (l : ℕ). IsTreeAt l 1 page_state words c.loop-level.left) leaf (tree_weaker c.loop-level.level i.left_minimum page_state words c.loop-level.left i.left_some i.left_tree) in
    record { leaf = tree_read page_state (g.L.Look.page_state c.loop-level.look) words (g.L.Look.words c.loop-level.look) 0 1 c.loop-level.left i.unchanged.page_state i.unchanged.words tree }

pub end_in-high_end-requires : goal.end_in-high_end-requires
end_in-high_end-requires g c =
    let i = c.loop-level.invariant in
    let leaf : c.loop-level.level ≡ 0 = omega (arith, c.loop-level-test.false) in
    let page_state = g.L.Look.page_state c.args.look.now in
    let words = g.L.Look.words c.args.look.now in
    let now = c.end_in-low_end.new.look in
    let is = c.end_in-low_end.ensures.unchanged in
    let tree = subst (λ (l : ℕ). IsTreeAt l 1 page_state words c.loop-level.right) leaf (tree_weaker c.loop-level.level i.right_minimum page_state words c.loop-level.right i.right_some i.right_tree) in
    record { leaf = tree_read page_state (g.L.Look.page_state now) words (g.L.Look.words now) 0 1 c.loop-level.right (is.page_state ∙ i.unchanged.page_state) (is.words ∙ i.unchanged.words) tree }
