use Rattle.std.proofs.Common.{◌≡◌, ◌∙◌, ◌<◌, ◌++◌, ℕ, List, [], length, drop, refl, ap, sym, subst, arith}
use Rattle.std.specs.Option.{option_copied}
use Rattle.std.proofs.lemmas.List.{append-nil, length-append, length-drop}
use Rattle.be_pages.specs.declared.room.PageState.{PageState}
use Rattle.be_tree_reading.specs.Cursor.{IsCursor, remaining}
use Rattle.be_tree_reading.specs.Pair.{Pair}
use Rattle.be_tree_reading.specs.Page.{items_of}
use Rattle.be_tree_reading.specs.Range.{HasFirst, HasGot}
use Rattle.be_tree_reading.proofs.Frame.{unchanged_trans}
use Rattle.be_tree_reading.proofs.Items.{items_count}
use Rattle.be_tree_reading.proofs.Reading.Leaves.{any_past, got_first, leaf_same}
use Rattle.be_tree_reading.proofs.Shape.Below.{all_left, all_right}
use Rattle.be_paged_reading.specs.Texts.{AreTexts, IsTextKey, node_if_passing, nodes_passing_to}
use Rattle.be_paged_reading.proofs.Asking.PassingNodes.{first_of_two, last_leaf, whole_leaf}
use Rattle.be_paged_reading.proofs.texts.test_rest.Given.{Over}
use Rattle.be_paged_reading.proofs.texts.test_rest.Goals as goal
use Rattle.be_paged_reading.proofs.texts.test_rest.Goals.{After-test_leaf}

pub leaves-init : goal.leaves-init
leaves-init g c = record {
  cursor = c.requires.cursor;
  texts = c.requires.texts;
  size = refl;
  has = record { got = []; parts = refl; is = sym (append-nil c.args.found.now.items) };
  unchanged = record { kept = refl; page_state = refl; words = refl };
}

pub test_leaf-requires-clause-leaf : goal.test_leaf-requires-clause-leaf
test_leaf-requires-clause-leaf g c =
    leaf_same (g.L.Look.page_state c.leaves.look) (g.L.Look.page_state c.step_leaf.new.look) (g.L.Look.words c.leaves.look) (g.L.Look.words c.step_leaf.new.look) c.in-Some.page
    c.step_leaf.ensures.unchanged.page_state c.step_leaf.ensures.unchanged.words c.in-Some.ensures.leaf

pub test_leaf-requires-clause-left : goal.test_leaf-requires-clause-left
test_leaf-requires-clause-left g c = subst (λ (w : ℕ → ℕ → ℕ). c.in-Some.from < w c.in-Some.page 1) (sym c.step_leaf.ensures.unchanged.words) c.in-Some.ensures.left

pub test_leaf-requires-clause-texts : goal.test_leaf-requires-clause-texts
test_leaf-requires-clause-texts g c =
    let words = g.L.Look.words c.args.look.now in
    let same = c.leaves.invariant.unchanged.words in
    let parts = subst (λ (w : ℕ → ℕ → ℕ). remaining w c.leaves.cursor ≡ drop c.in-Some.from (items_of (w c.in-Some.page)) ++ remaining w c.step_leaf.new.self) same c.in-Some.ensures.parts in
    subst (λ (w : ℕ → ℕ → ℕ). AreTexts (drop c.in-Some.from (items_of (w c.in-Some.page)))) (sym (c.step_leaf.ensures.unchanged.words ∙ same))
    (all_left (λ (x : Pair). IsTextKey x.key) (drop c.in-Some.from (items_of (words c.in-Some.page))) (remaining words c.step_leaf.new.self) (subst AreTexts parts c.leaves.invariant.texts))

pub test_leaf-requires-clause-fits : goal.test_leaf-requires-clause-fits
test_leaf-requires-clause-fits g c = c.leaves.invariant.size

-- The pairs of the leaf, and those after it.
parts : (g : Over) (c : After-test_leaf g) → remaining (g.L.Look.words c.args.look.now) c.leaves.cursor
    ≡ drop c.in-Some.from (items_of (g.L.Look.words c.args.look.now c.in-Some.page)) ++ remaining (g.L.Look.words c.args.look.now) c.step_leaf.new.self
parts g c =
    subst (λ (w : ℕ → ℕ → ℕ). remaining w c.leaves.cursor ≡ drop c.in-Some.from (items_of (w c.in-Some.page)) ++ remaining w c.step_leaf.new.self) c.leaves.invariant.unchanged.words c.in-Some.ensures.parts

has : (g : Over) (c : After-test_leaf g)
    → HasGot c.args.found.now.items (nodes_passing_to c.args.test.now.0 c.args.test.now.1 (remaining (g.L.Look.words c.args.look.now) c.args.cursor.now) (option_copied c.args.high))
    (nodes_passing_to c.args.test.now.0 c.args.test.now.1 (drop c.in-Some.from (items_of (g.L.Look.words c.args.look.now c.in-Some.page)) ++ remaining (g.L.Look.words c.args.look.now) c.step_leaf.new.self) (option_copied c.args.high)) c.leaves.found.items
has g c =
    let to = λ (ps : List Pair). nodes_passing_to c.args.test.now.0 c.args.test.now.1 ps (option_copied c.args.high) in
    subst (λ (ps : List Pair). HasGot c.args.found.now.items (to (remaining (g.L.Look.words c.args.look.now) c.args.cursor.now)) (to ps) c.leaves.found.items)
    (parts g c) c.leaves.invariant.has

read : (g : Over) (c : After-test_leaf g) → g.L.Look.words c.step_leaf.new.look ≡ g.L.Look.words c.args.look.now
read g c = c.step_leaf.ensures.unchanged.words ∙ c.leaves.invariant.unchanged.words

-- The first nodes of the leaf are the first of all nodes.
first : (g : Over) (c : After-test_leaf g)
    → HasFirst c.args.found.now.items (nodes_passing_to c.args.test.now.0 c.args.test.now.1 (remaining (g.L.Look.words c.args.look.now) c.args.cursor.now) (option_copied c.args.high)) c.test_leaf.new.found.items
first g c =
    let words = g.L.Look.words c.args.look.now in
    let high = option_copied c.args.high in
    let to = λ (ps : List Pair). nodes_passing_to c.args.test.now.0 c.args.test.now.1 ps high in
    let xs = drop c.in-Some.from (items_of (words c.in-Some.page)) in
    let ys = remaining words c.step_leaf.new.self in
    got_first c.args.found.now.items (to (remaining words c.args.cursor.now)) (to (xs ++ ys)) c.leaves.found.items c.test_leaf.new.found.items (has g c)
    (first_of_two (node_if_passing c.args.test.now.0 c.args.test.now.1) c.leaves.found.items c.test_leaf.new.found.items xs ys high
    (subst (λ (w : ℕ → ℕ → ℕ). HasFirst c.leaves.found.items (to (drop c.in-Some.from (items_of (w c.in-Some.page)))) c.test_leaf.new.found.items) (read g c) c.test_leaf.ensures.first))

pub returns-in_err-is_last-clause-first : goal.returns-in_err-is_last-clause-first
returns-in_err-is_last-clause-first g c = first g (goal.at.returns-in_err-is_last-clause-first g c).After-test_leaf

pub returns-then-is_last-clause-first : goal.returns-then-is_last-clause-first
returns-then-is_last-clause-first g c = first g (goal.at.returns-then-is_last-clause-first g c).After-test_leaf

pub returns-then-is_last-clause-found : goal.returns-then-is_last-clause-found
returns-then-is_last-clause-found g c =
    let at = (goal.at.returns-then-is_last-clause-found g c).After-test_leaf in
    let words = g.L.Look.words c.args.look.now in
    let high = option_copied c.args.high in
    let to = λ (ps : List Pair). nodes_passing_to c.args.test.now.0 c.args.test.now.1 ps high in
    let same = read g at in
    last_leaf (node_if_passing c.args.test.now.0 c.args.test.now.1) c.args.found.now.items (to (remaining words c.args.cursor.now)) c.leaves.found.items c.test_leaf.new.found.items
    (drop c.in-Some.from (items_of (words c.in-Some.page))) (remaining words c.step_leaf.new.self) high (has g at)
    (sym c.if-is_last.true ∙ c.in_ok-is_last.ensures.past ∙ ap (λ (w : ℕ → ℕ → ℕ). any_past high (drop c.in-Some.from (items_of (w c.in-Some.page)))) same)
    (c.in_ok-is_last.ensures.found ∙ ap (λ (w : ℕ → ℕ → ℕ). c.leaves.found.items ++ to (drop c.in-Some.from (items_of (w c.in-Some.page)))) same)

pub leaves-smaller : goal.leaves-smaller
leaves-smaller g c =
    let at = (goal.at.leaves-smaller g c).After-test_leaf in
    let words = g.L.Look.words c.args.look.now in
    let items = items_of (words c.in-Some.page) in
    let left = subst (λ (w : ℕ → ℕ → ℕ). c.in-Some.from < w c.in-Some.page 1) c.leaves.invariant.unchanged.words c.in-Some.ensures.left in
    omega (arith, ap length (parts g at), length-append (drop c.in-Some.from items) (remaining words c.step_leaf.new.self), length-drop c.in-Some.from items, items_count (words c.in-Some.page), left)

pub leaves-preserved : goal.leaves-preserved
leaves-preserved g c =
    let at = (goal.at.leaves-preserved g c).After-test_leaf in
    let words = g.L.Look.words c.args.look.now in
    let high = option_copied c.args.high in
    let to = λ (ps : List Pair). nodes_passing_to c.args.test.now.0 c.args.test.now.1 ps high in
    let same = read g at in
    let xs = drop c.in-Some.from (items_of (words c.in-Some.page)) in
    let ys = remaining words c.step_leaf.new.self in
    record {
      cursor = subst (λ (w : ℕ → ℕ → ℕ). IsCursor (g.L.Look.page_state c.args.look.now) w c.step_leaf.new.self) c.leaves.invariant.unchanged.words
          (subst (λ (s : ℕ → PageState). IsCursor s (g.L.Look.words c.leaves.look) c.step_leaf.new.self) c.leaves.invariant.unchanged.page_state c.step_leaf.ensures.cursor);
      texts = all_right (λ (x : Pair). IsTextKey x.key) xs ys (subst AreTexts (parts g at) c.leaves.invariant.texts);
      size = omega (arith, c.leaves.invariant.size);
      has = whole_leaf (node_if_passing c.args.test.now.0 c.args.test.now.1) c.args.found.now.items (to (remaining words c.args.cursor.now)) c.leaves.found.items c.test_leaf.new.found.items xs ys high (has g at)
          (sym c.if-is_last.false ∙ c.in_ok-is_last.ensures.past ∙ ap (λ (w : ℕ → ℕ → ℕ). any_past high (drop c.in-Some.from (items_of (w c.in-Some.page)))) same)
          (c.in_ok-is_last.ensures.found ∙ ap (λ (w : ℕ → ℕ → ℕ). c.leaves.found.items ++ to (drop c.in-Some.from (items_of (w c.in-Some.page)))) same);
      unchanged = unchanged_trans g.L.Look.kept g.L.Look.page_state g.L.Look.words c.args.look.now c.step_leaf.new.look c.test_leaf.new.look
          (unchanged_trans g.L.Look.kept g.L.Look.page_state g.L.Look.words c.args.look.now c.leaves.look c.step_leaf.new.look c.leaves.invariant.unchanged c.step_leaf.ensures.unchanged)
          c.test_leaf.ensures.unchanged;
    }
