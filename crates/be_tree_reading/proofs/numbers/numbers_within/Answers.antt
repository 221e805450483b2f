use Rattle.std.proofs.Common.{◌≡◌, ◌∙◌, ◌≤◌, ◌++◌, ℕ, List, [], false, length, drop, refl, ap, sym, subst, arith}
use Rattle.std.specs.Option.{option_copied}
use Rattle.std.proofs.lemmas.List.{append-nil}
use Rattle.std.proofs.lemmas.List.Elements.{All-filter}
use Rattle.std.proofs.lemmas.Result.{IfOk-weaker}
use Rattle.be_pages.specs.declared.room.PageState.{PageState}
use Rattle.be_tree_reading.specs.Pair.{Pair}
use Rattle.be_tree_reading.specs.Page.{items_of}
use Rattle.be_tree_reading.specs.Places.{AreFrom, IsNext, number_at_place}
use Rattle.be_tree_reading.specs.Range.{AreLong, HasFirst, is_from, numbers_to, pairs_from}
use Rattle.be_tree_reading.specs.Tree.{IsTree, pairs}
use Rattle.be_tree_reading.proofs.Reading.Leaves.{any_past, got_first, got_rest, leaf_same, long_left}
use Rattle.be_tree_reading.proofs.Reading.Starts.{leaf_first, leaf_last, leaf_whole, number_back}
use Rattle.be_tree_reading.proofs.numbers.numbers_within.Given.{Over}
use Rattle.be_tree_reading.proofs.numbers.numbers_within.Goals as goal
use Rattle.be_tree_reading.proofs.numbers.numbers_within.Goals.{After-first_leaf-leaf, After-push_to}

-- what is from `low` on: the leaf's share of it, and the rest
abbrev rest : (g : Over) (c : After-first_leaf-leaf g) → List Pair
rest g c = c.first_leaf-leaf.ensures.from.0

from : (g : Over) (c : After-first_leaf-leaf g) → AreFrom (g.L.Look.words c.args.look.now) c.first_leaf-leaf.result.page c.first_leaf-leaf.result.at
    (pairs_from (pairs (g.L.Look.words c.args.look.now) c.args.root) c.args.low.now false) (rest g c)
from g c = c.first_leaf-leaf.ensures.from.1.0

next : (g : Over) (c : After-first_leaf-leaf g) → IsNext (g.L.Look.page_state c.args.look.now) (g.L.Look.words c.args.look.now) c.first_leaf-leaf.result.next.page c.first_leaf-leaf.result.next.place (rest g c)
next g c = c.first_leaf-leaf.ensures.from.1.1

-- the leaf's items from `low` on
abbrev here : (g : Over) (c : After-first_leaf-leaf g) → List Pair
here g c = drop (number_at_place c.first_leaf-leaf.result.at) (items_of (g.L.Look.words c.args.look.now c.first_leaf-leaf.result.page))

parts : (g : Over) (c : After-first_leaf-leaf g) → pairs_from (pairs (g.L.Look.words c.args.look.now) c.args.root) c.args.low.now false ≡ here g c ++ rest g c
parts g c =
    (from g c).parts ∙ ap (λ (n : ℕ). drop n (items_of (g.L.Look.words c.args.look.now c.first_leaf-leaf.result.page)) ++ rest g c) (sym (number_back c.first_leaf-leaf.result.at (from g c).number (from g c).is_place))

-- the tree is empty
pub returns-then-root-eq0-clause-first : goal.returns-then-root-eq0-clause-first
returns-then-root-eq0-clause-first g c = record {
  left = numbers_to (pairs_from (pairs (g.L.Look.words c.args.look.now) c.args.root) c.args.low.now false) (option_copied c.args.high);
  has = record { got = []; parts = refl; is = sym (append-nil c.args.found.now.items) };
}

pub returns-then-root-eq0-clause-found : goal.returns-then-root-eq0-clause-found
returns-then-root-eq0-clause-found g c =
    sym (ap (λ (r : ℕ). c.args.found.now.items ++ numbers_to (pairs_from (pairs (g.L.Look.words c.args.look.now) r) c.args.low.now false) (option_copied c.args.high)) c.if-root-eq0.true
    ∙ append-nil c.args.found.now.items)

pub first_leaf-leaf-requires-clause-some : goal.first_leaf-leaf-requires-clause-some
first_leaf-leaf-requires-clause-some g c = omega (arith, c.if-root-eq0.false)

pub push_to-requires-clause-leaf : goal.push_to-requires-clause-leaf
push_to-requires-clause-leaf g c =
    leaf_same (g.L.Look.page_state c.args.look.now) (g.L.Look.page_state c.first_leaf-leaf.new.look) (g.L.Look.words c.args.look.now) (g.L.Look.words c.first_leaf-leaf.new.look) c.first_leaf-leaf.result.page
    c.first_leaf-leaf.ensures.unchanged.page_state c.first_leaf-leaf.ensures.unchanged.words c.first_leaf-leaf.ensures.leaf

pub push_to-requires-clause-place : goal.push_to-requires-clause-place
push_to-requires-clause-place g c =
    let of = from g (goal.at.push_to-requires-clause-place g c).After-first_leaf-leaf in
    omega (arith, of.is_place)

pub push_to-requires-clause-in_range : goal.push_to-requires-clause-in_range
push_to-requires-clause-in_range g c =
    let of = from g (goal.at.push_to-requires-clause-in_range g c).After-first_leaf-leaf in
    subst (λ (w : ℕ → ℕ → ℕ). number_at_place c.first_leaf-leaf.result.at ≤ w c.first_leaf-leaf.result.page 1) (sym c.first_leaf-leaf.ensures.unchanged.words)
    (omega (arith, number_back c.first_leaf-leaf.result.at of.number of.is_place, of.in_range))

pub push_to-requires-clause-long : goal.push_to-requires-clause-long
push_to-requires-clause-long g c =
    let at = (goal.at.push_to-requires-clause-long g c).After-first_leaf-leaf in
    let all = pairs (g.L.Look.words c.args.look.now) c.args.root in
    subst (λ (w : ℕ → ℕ → ℕ). AreLong (drop (number_at_place c.first_leaf-leaf.result.at) (items_of (w c.first_leaf-leaf.result.page)))) (sym c.first_leaf-leaf.ensures.unchanged.words)
    (long_left (here g at) (rest g at)
    (subst AreLong (parts g at) (All-filter (λ (x : Pair). is_from c.args.low.now false x.key) (λ (x : Pair). 8 ≤ length x.key) all c.requires.long)))

-- what was pushed from the leaf
pushed : (g : Over) (c : After-push_to g) → HasFirst c.args.found.now.items
    (numbers_to (drop (number_at_place c.first_leaf-leaf.result.at) (items_of (g.L.Look.words c.args.look.now c.first_leaf-leaf.result.page))) (option_copied c.args.high)) c.push_to.new.found.items
pushed g c =
    subst (λ (w : ℕ → ℕ → ℕ). HasFirst c.args.found.now.items (numbers_to (drop (number_at_place c.first_leaf-leaf.result.at) (items_of (w c.first_leaf-leaf.result.page))) (option_copied c.args.high)) c.push_to.new.found.items)
    c.first_leaf-leaf.ensures.unchanged.words c.push_to.ensures.first

pub returns-in_err-is_last-clause-first : goal.returns-in_err-is_last-clause-first
returns-in_err-is_last-clause-first g c =
    let b = (goal.at.returns-in_err-is_last-clause-first g c).After-first_leaf-leaf in
    leaf_first c.args.found.now.items c.push_to.new.found.items (pairs_from (pairs (g.L.Look.words c.args.look.now) c.args.root) c.args.low.now false) (here g b) (rest g b) (option_copied c.args.high) (parts g b)
    (pushed g (goal.at.returns-in_err-is_last-clause-first g c).After-push_to)

pub returns-then-is_last-clause-first : goal.returns-then-is_last-clause-first
returns-then-is_last-clause-first g c =
    let b = (goal.at.returns-then-is_last-clause-first g c).After-first_leaf-leaf in
    leaf_first c.args.found.now.items c.push_to.new.found.items (pairs_from (pairs (g.L.Look.words c.args.look.now) c.args.root) c.args.low.now false) (here g b) (rest g b) (option_copied c.args.high) (parts g b)
    (pushed g (goal.at.returns-then-is_last-clause-first g c).After-push_to)

pub returns-then-is_last-clause-found : goal.returns-then-is_last-clause-found
returns-then-is_last-clause-found g c =
    let b = (goal.at.returns-then-is_last-clause-found g c).After-first_leaf-leaf in
    let high = option_copied c.args.high in
    let before = c.args.found.now.items in
    let same = c.first_leaf-leaf.ensures.unchanged.words in
    let from = number_at_place c.first_leaf-leaf.result.at in
    let page = c.first_leaf-leaf.result.page in
    leaf_last before c.push_to.new.found.items (pairs_from (pairs (g.L.Look.words c.args.look.now) c.args.root) c.args.low.now false) (here g b) (rest g b) high (parts g b)
    (sym c.if-is_last.true ∙ c.in_ok-is_last.ensures.past ∙ ap (λ (w : ℕ → ℕ → ℕ). any_past high (drop from (items_of (w page)))) same)
    (c.in_ok-is_last.ensures.found ∙ ap (λ (w : ℕ → ℕ → ℕ). before ++ numbers_to (drop from (items_of (w page))) high) same)

-- the words were only read
read : (g : Over) (c : After-push_to g) → g.L.Look.words c.push_to.new.look ≡ g.L.Look.words c.args.look.now
read g c = c.push_to.ensures.unchanged.words ∙ c.first_leaf-leaf.ensures.unchanged.words

next_now : (g : Over) (b : After-first_leaf-leaf g) (page_state : ℕ → PageState) (words : ℕ → ℕ → ℕ) → page_state ≡ g.L.Look.page_state b.args.look.now → words ≡ g.L.Look.words b.args.look.now
    → IsNext page_state words b.first_leaf-leaf.result.next.page b.first_leaf-leaf.result.next.place (rest g b)
next_now g b page_state words es ew =
    subst (λ (w : ℕ → ℕ → ℕ). IsNext page_state w b.first_leaf-leaf.result.next.page b.first_leaf-leaf.result.next.place (rest g b)) (sym ew)
    (subst (λ (s : ℕ → PageState). IsNext s (g.L.Look.words b.args.look.now) b.first_leaf-leaf.result.next.page b.first_leaf-leaf.result.next.place (rest g b)) (sym es) (next g b))

pub ends_before-is_end-requires : goal.ends_before-is_end-requires
ends_before-is_end-requires g c =
    let b = (goal.at.ends_before-is_end-requires g c).After-first_leaf-leaf in
    record {
      next = (
        rest g b,
        next_now g b (g.L.Look.page_state c.push_to.new.look) (g.L.Look.words c.push_to.new.look)
            (c.push_to.ensures.unchanged.page_state ∙ c.first_leaf-leaf.ensures.unchanged.page_state) (read g (goal.at.ends_before-is_end-requires g c).After-push_to),
      );
    }

pub returns-then-is_end-clause-first : goal.returns-then-is_end-clause-first
returns-then-is_end-clause-first g c =
    let b = (goal.at.returns-then-is_end-clause-first g c).After-first_leaf-leaf in
    let high = option_copied c.args.high in
    let before = c.args.found.now.items in
    let same = c.first_leaf-leaf.ensures.unchanged.words in
    let from = number_at_place c.first_leaf-leaf.result.at in
    let page = c.first_leaf-leaf.result.page in
    record {
      left = numbers_to (rest g b) high;
      has = leaf_whole before c.push_to.new.found.items (pairs_from (pairs (g.L.Look.words c.args.look.now) c.args.root) c.args.low.now false) (here g b) (rest g b) high (parts g b)
          (sym c.if-is_last.false ∙ c.in_ok-is_last.ensures.past ∙ ap (λ (w : ℕ → ℕ → ℕ). any_past high (drop from (items_of (w page)))) same)
          (c.in_ok-is_last.ensures.found ∙ ap (λ (w : ℕ → ℕ → ℕ). before ++ numbers_to (drop from (items_of (w page))) high) same);
    }

pub returns-then-is_end-clause-found : goal.returns-then-is_end-clause-found
returns-then-is_end-clause-found g c =
    let b = (goal.at.returns-then-is_end-clause-found g c).After-first_leaf-leaf in
    let high = option_copied c.args.high in
    let before = c.args.found.now.items in
    let mid = c.push_to.new.found.items in
    let same = c.first_leaf-leaf.ensures.unchanged.words in
    let from = number_at_place c.first_leaf-leaf.result.at in
    let page = c.first_leaf-leaf.result.page in
    let all = pairs_from (pairs (g.L.Look.words c.args.look.now) c.args.root) c.args.low.now false in
    let has = leaf_whole before mid all (here g b) (rest g b) high (parts g b)
    (sym c.if-is_last.false ∙ c.in_ok-is_last.ensures.past ∙ ap (λ (w : ℕ → ℕ → ℕ). any_past high (drop from (items_of (w page)))) same)
    (c.in_ok-is_last.ensures.found ∙ ap (λ (w : ℕ → ℕ → ℕ). before ++ numbers_to (drop from (items_of (w page))) high) same) in
    let none = c.ends_before-is_end.ensures.none c.if-is_end.true (rest g b) (next_now g b (g.L.Look.page_state c.push_to.new.look) (g.L.Look.words c.push_to.new.look)
    (c.push_to.ensures.unchanged.page_state ∙ c.first_leaf-leaf.ensures.unchanged.page_state) (read g (goal.at.returns-then-is_end-clause-found g c).After-push_to)) in
    got_rest before (numbers_to all high) (numbers_to (rest g b) high) mid mid has (sym (ap (λ (ns : List ℕ). mid ++ ns) none ∙ append-nil mid))

-- what later calls require still holds
pub push_past-requires-clause-tree : goal.push_past-requires-clause-tree
push_past-requires-clause-tree g c =
    subst (λ (w : ℕ → ℕ → ℕ). IsTree (g.L.Look.page_state c.ends_before-is_end.new.look) w c.args.root)
    (sym (c.ends_before-is_end.ensures.unchanged.words ∙ read g (goal.at.push_past-requires-clause-tree g c).After-push_to))
    (subst (λ (s : ℕ → PageState). IsTree s (g.L.Look.words c.args.look.now) c.args.root)
    (sym (c.ends_before-is_end.ensures.unchanged.page_state ∙ c.push_to.ensures.unchanged.page_state ∙ c.first_leaf-leaf.ensures.unchanged.page_state)) c.requires.tree)

pub push_past-requires-clause-long : goal.push_past-requires-clause-long
push_past-requires-clause-long g c =
    subst (λ (w : ℕ → ℕ → ℕ). AreLong (pairs w c.args.root))
    (sym (c.ends_before-is_end.ensures.unchanged.words ∙ read g (goal.at.push_past-requires-clause-long g c).After-push_to)) c.requires.long

pub push_past-requires-clause-leaf : goal.push_past-requires-clause-leaf
push_past-requires-clause-leaf g c =
    leaf_same (g.L.Look.page_state c.args.look.now) (g.L.Look.page_state c.ends_before-is_end.new.look) (g.L.Look.words c.args.look.now) (g.L.Look.words c.ends_before-is_end.new.look) c.first_leaf-leaf.result.page
    (c.ends_before-is_end.ensures.unchanged.page_state ∙ c.push_to.ensures.unchanged.page_state ∙ c.first_leaf-leaf.ensures.unchanged.page_state)
    (c.ends_before-is_end.ensures.unchanged.words ∙ read g (goal.at.push_past-requires-clause-leaf g c).After-push_to) c.first_leaf-leaf.ensures.leaf

from_now : (g : Over) (b : After-first_leaf-leaf g) (words : ℕ → ℕ → ℕ) → words ≡ g.L.Look.words b.args.look.now
    → AreFrom words b.first_leaf-leaf.result.page b.first_leaf-leaf.result.at (pairs_from (pairs words b.args.root) b.args.low.now false) (rest g b)
from_now g b words e =
    subst (λ (w : ℕ → ℕ → ℕ). AreFrom w b.first_leaf-leaf.result.page b.first_leaf-leaf.result.at (pairs_from (pairs w b.args.root) b.args.low.now false) (rest g b)) (sym e) (from g b)

pub push_past-requires-clause-from : goal.push_past-requires-clause-from
push_past-requires-clause-from g c =
    let b = (goal.at.push_past-requires-clause-from g c).After-first_leaf-leaf in
    (rest g b, from_now g b (g.L.Look.words c.ends_before-is_end.new.look) (c.ends_before-is_end.ensures.unchanged.words ∙ read g (goal.at.push_past-requires-clause-from g c).After-push_to))

pub returns-clause-first : goal.returns-clause-first
returns-clause-first g c =
    let b = (goal.at.returns-clause-first g c).After-first_leaf-leaf in
    let high = option_copied c.args.high in
    let before = c.args.found.now.items in
    let mid = c.push_to.new.found.items in
    let same = c.first_leaf-leaf.ensures.unchanged.words in
    let from = number_at_place c.first_leaf-leaf.result.at in
    let page = c.first_leaf-leaf.result.page in
    let all = pairs_from (pairs (g.L.Look.words c.args.look.now) c.args.root) c.args.low.now false in
    let has = leaf_whole before mid all (here g b) (rest g b) high (parts g b)
    (sym c.if-is_last.false ∙ c.in_ok-is_last.ensures.past ∙ ap (λ (w : ℕ → ℕ → ℕ). any_past high (drop from (items_of (w page)))) same)
    (c.in_ok-is_last.ensures.found ∙ ap (λ (w : ℕ → ℕ → ℕ). before ++ numbers_to (drop from (items_of (w page))) high) same) in
    got_first before (numbers_to all high) (numbers_to (rest g b) high) mid c.push_past.new.found.items has
    (c.push_past.ensures.first (rest g b) (from_now g b (g.L.Look.words c.ends_before-is_end.new.look) (c.ends_before-is_end.ensures.unchanged.words ∙ read g (goal.at.returns-clause-first g c).After-push_to)))

pub returns-clause-found : goal.returns-clause-found
returns-clause-found g c =
    let b = (goal.at.returns-clause-found g c).After-first_leaf-leaf in
    let high = option_copied c.args.high in
    let before = c.args.found.now.items in
    let mid = c.push_to.new.found.items in
    let now = c.push_past.new.found.items in
    let same = c.first_leaf-leaf.ensures.unchanged.words in
    let start = number_at_place c.first_leaf-leaf.result.at in
    let page = c.first_leaf-leaf.result.page in
    let last = g.L.Look.words c.ends_before-is_end.new.look in
    let all = pairs_from (pairs (g.L.Look.words c.args.look.now) c.args.root) c.args.low.now false in
    let has = leaf_whole before mid all (here g b) (rest g b) high (parts g b)
    (sym c.if-is_last.false ∙ c.in_ok-is_last.ensures.past ∙ ap (λ (w : ℕ → ℕ → ℕ). any_past high (drop start (items_of (w page)))) same)
    (c.in_ok-is_last.ensures.found ∙ ap (λ (w : ℕ → ℕ → ℕ). before ++ numbers_to (drop start (items_of (w page))) high) same) in
    IfOk-weaker c.push_past.result
    (λ _. (after : List Pair) → AreFrom last page c.first_leaf-leaf.result.at (pairs_from (pairs last c.args.root) c.args.low.now false) after → now ≡ mid ++ numbers_to after high)
    (λ _. now ≡ before ++ numbers_to all high)
    (λ _ h. got_rest before (numbers_to all high) (numbers_to (rest g b) high) mid now has
    (h (rest g b) (from_now g b last (c.ends_before-is_end.ensures.unchanged.words ∙ read g (goal.at.returns-clause-found g c).After-push_to))))
    c.push_past.ensures.found
