use Rattle.std.proofs.Common.{◌≡◌, ◌∙◌, ◌<◌, ◌++◌, ℕ, List, [], length, drop, refl, ap, sym, subst, arith}
use Rattle.std.specs.Option.{option_copied}
use Rattle.std.proofs.lemmas.List.{append-nil, length-append, length-drop}
use Rattle.be_pages.specs.declared.room.PageState.{PageState}
use Rattle.be_tree_reading.specs.Cursor.{IsCursor, remaining}
use Rattle.be_tree_reading.specs.Pair.{Pair}
use Rattle.be_tree_reading.specs.Page.{items_of}
use Rattle.be_tree_reading.specs.Range.{AreLong, HasFirst, HasGot, numbers_to}
use Rattle.be_tree_reading.proofs.Frame.{unchanged_trans}
use Rattle.be_tree_reading.proofs.Items.{items_count}
use Rattle.be_tree_reading.proofs.Reading.Leaves.{any_past, first_of_two, got_first, last_leaf, leaf_same, long_left, long_right, whole_leaf}
use Rattle.be_tree_reading.proofs.numbers.push_rest.Given.{Over}
use Rattle.be_tree_reading.proofs.numbers.push_rest.Goals as goal
use Rattle.be_tree_reading.proofs.numbers.push_rest.Goals.{After-push_leaf}

pub leaves-init : goal.leaves-init
leaves-init g c = record {
  cursor = c.requires.cursor;
  long = c.requires.long;
  has = record { got = []; parts = refl; is = sym (append-nil c.args.found.now.items) };
  unchanged = record { kept = refl; page_state = refl; words = refl };
}

pub push_leaf-requires-clause-leaf : goal.push_leaf-requires-clause-leaf
push_leaf-requires-clause-leaf g c =
    leaf_same (g.L.Look.page_state c.leaves.look) (g.L.Look.page_state c.step_leaf.new.look) (g.L.Look.words c.leaves.look) (g.L.Look.words c.step_leaf.new.look) c.in-Some.page
    c.step_leaf.ensures.unchanged.page_state c.step_leaf.ensures.unchanged.words c.in-Some.ensures.leaf

pub push_leaf-requires-clause-left : goal.push_leaf-requires-clause-left
push_leaf-requires-clause-left g c = subst (λ (w : ℕ → ℕ → ℕ). c.in-Some.from < w c.in-Some.page 1) (sym c.step_leaf.ensures.unchanged.words) c.in-Some.ensures.left

pub push_leaf-requires-clause-long : goal.push_leaf-requires-clause-long
push_leaf-requires-clause-long g c =
    let words = g.L.Look.words c.args.look.now in
    let same = c.leaves.invariant.unchanged.words in
    let parts = subst (λ (w : ℕ → ℕ → ℕ). remaining w c.leaves.cursor ≡ drop c.in-Some.from (items_of (w c.in-Some.page)) ++ remaining w c.step_leaf.new.self) same c.in-Some.ensures.parts in
    subst (λ (w : ℕ → ℕ → ℕ). AreLong (drop c.in-Some.from (items_of (w c.in-Some.page)))) (sym (c.step_leaf.ensures.unchanged.words ∙ same))
    (long_left (drop c.in-Some.from (items_of (words c.in-Some.page))) (remaining words c.step_leaf.new.self) (subst AreLong parts c.leaves.invariant.long))

-- the leaf's pairs, and those after it
parts : (g : Over) (c : After-push_leaf g) → remaining (g.L.Look.words c.args.look.now) c.leaves.cursor
    ≡ drop c.in-Some.from (items_of (g.L.Look.words c.args.look.now c.in-Some.page)) ++ remaining (g.L.Look.words c.args.look.now) c.step_leaf.new.self
parts g c =
    subst (λ (w : ℕ → ℕ → ℕ). remaining w c.leaves.cursor ≡ drop c.in-Some.from (items_of (w c.in-Some.page)) ++ remaining w c.step_leaf.new.self) c.leaves.invariant.unchanged.words c.in-Some.ensures.parts

has : (g : Over) (c : After-push_leaf g) → HasGot c.args.found.now.items (numbers_to (remaining (g.L.Look.words c.args.look.now) c.args.cursor.now) (option_copied c.args.high))
    (numbers_to (drop c.in-Some.from (items_of (g.L.Look.words c.args.look.now c.in-Some.page)) ++ remaining (g.L.Look.words c.args.look.now) c.step_leaf.new.self) (option_copied c.args.high)) c.leaves.found.items
has g c =
    subst (λ (ps : List Pair). HasGot c.args.found.now.items (numbers_to (remaining (g.L.Look.words c.args.look.now) c.args.cursor.now) (option_copied c.args.high)) (numbers_to ps (option_copied c.args.high)) c.leaves.found.items)
    (parts g c) c.leaves.invariant.has

read : (g : Over) (c : After-push_leaf g) → g.L.Look.words c.step_leaf.new.look ≡ g.L.Look.words c.args.look.now
read g c = c.step_leaf.ensures.unchanged.words ∙ c.leaves.invariant.unchanged.words

-- the first of the leaf's numbers are the first of all
first : (g : Over) (c : After-push_leaf g) → HasFirst c.args.found.now.items (numbers_to (remaining (g.L.Look.words c.args.look.now) c.args.cursor.now) (option_copied c.args.high)) c.push_leaf.new.found.items
first g c =
    let words = g.L.Look.words c.args.look.now in
    let high = option_copied c.args.high in
    let xs = drop c.in-Some.from (items_of (words c.in-Some.page)) in
    let ys = remaining words c.step_leaf.new.self in
    got_first c.args.found.now.items (numbers_to (remaining words c.args.cursor.now) high) (numbers_to (xs ++ ys) high) c.leaves.found.items c.push_leaf.new.found.items (has g c)
    (first_of_two c.leaves.found.items c.push_leaf.new.found.items xs ys high
    (subst (λ (w : ℕ → ℕ → ℕ). HasFirst c.leaves.found.items (numbers_to (drop c.in-Some.from (items_of (w c.in-Some.page))) high) c.push_leaf.new.found.items) (read g c) c.push_leaf.ensures.first))

pub returns-in_err-is_last-clause-first : goal.returns-in_err-is_last-clause-first
returns-in_err-is_last-clause-first g c = first g (goal.at.returns-in_err-is_last-clause-first g c).After-push_leaf

pub returns-then-is_last-clause-first : goal.returns-then-is_last-clause-first
returns-then-is_last-clause-first g c = first g (goal.at.returns-then-is_last-clause-first g c).After-push_leaf

pub returns-then-is_last-clause-found : goal.returns-then-is_last-clause-found
returns-then-is_last-clause-found g c =
    let at = (goal.at.returns-then-is_last-clause-found g c).After-push_leaf in
    let words = g.L.Look.words c.args.look.now in
    let high = option_copied c.args.high in
    let same = read g at in
    last_leaf c.args.found.now.items (numbers_to (remaining words c.args.cursor.now) high) c.leaves.found.items c.push_leaf.new.found.items
    (drop c.in-Some.from (items_of (words c.in-Some.page))) (remaining words c.step_leaf.new.self) high (has g at)
    (sym c.if-is_last.true ∙ c.in_ok-is_last.ensures.past ∙ ap (λ (w : ℕ → ℕ → ℕ). any_past high (drop c.in-Some.from (items_of (w c.in-Some.page)))) same)
    (c.in_ok-is_last.ensures.found ∙ ap (λ (w : ℕ → ℕ → ℕ). c.leaves.found.items ++ numbers_to (drop c.in-Some.from (items_of (w c.in-Some.page))) high) same)

pub leaves-smaller : goal.leaves-smaller
leaves-smaller g c =
    let at = (goal.at.leaves-smaller g c).After-push_leaf in
    let words = g.L.Look.words c.args.look.now in
    let items = items_of (words c.in-Some.page) in
    let left = subst (λ (w : ℕ → ℕ → ℕ). c.in-Some.from < w c.in-Some.page 1) c.leaves.invariant.unchanged.words c.in-Some.ensures.left in
    omega (arith, ap length (parts g at), length-append (drop c.in-Some.from items) (remaining words c.step_leaf.new.self), length-drop c.in-Some.from items, items_count (words c.in-Some.page), left)

pub leaves-preserved : goal.leaves-preserved
leaves-preserved g c =
    let at = (goal.at.leaves-preserved g c).After-push_leaf in
    let words = g.L.Look.words c.args.look.now in
    let high = option_copied c.args.high in
    let same = read g at in
    let xs = drop c.in-Some.from (items_of (words c.in-Some.page)) in
    let ys = remaining words c.step_leaf.new.self in
    record {
      cursor = subst (λ (w : ℕ → ℕ → ℕ). IsCursor (g.L.Look.page_state c.args.look.now) w c.step_leaf.new.self) c.leaves.invariant.unchanged.words
          (subst (λ (s : ℕ → PageState). IsCursor s (g.L.Look.words c.leaves.look) c.step_leaf.new.self) c.leaves.invariant.unchanged.page_state c.step_leaf.ensures.cursor);
      long = long_right xs ys (subst AreLong (parts g at) c.leaves.invariant.long);
      has = whole_leaf c.args.found.now.items (numbers_to (remaining words c.args.cursor.now) high) c.leaves.found.items c.push_leaf.new.found.items xs ys high (has g at)
          (sym c.if-is_last.false ∙ c.in_ok-is_last.ensures.past ∙ ap (λ (w : ℕ → ℕ → ℕ). any_past high (drop c.in-Some.from (items_of (w c.in-Some.page)))) same)
          (c.in_ok-is_last.ensures.found ∙ ap (λ (w : ℕ → ℕ → ℕ). c.leaves.found.items ++ numbers_to (drop c.in-Some.from (items_of (w c.in-Some.page))) high) same);
      unchanged = unchanged_trans g.L.Look.kept g.L.Look.page_state g.L.Look.words c.args.look.now c.step_leaf.new.look c.push_leaf.new.look
          (unchanged_trans g.L.Look.kept g.L.Look.page_state g.L.Look.words c.args.look.now c.leaves.look c.step_leaf.new.look c.leaves.invariant.unchanged c.step_leaf.ensures.unchanged)
          c.push_leaf.ensures.unchanged;
    }
