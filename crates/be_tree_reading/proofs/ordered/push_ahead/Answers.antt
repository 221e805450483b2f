use Rattle.std.proofs.Common.{◌≡◌, ◌∙◌, ◌++◌, ◌-◌, ◌<◌, ◌≤◌, ℕ, List, [], length, take, refl, ap, sym, subst, arith, append_assoc}
use Rattle.std.proofs.lemmas.List.{append-nil}
use Rattle.be_tree_reading.specs.Pair.{Pair}
use Rattle.be_tree_reading.specs.Range.{AreLong, HasFirst}
use Rattle.be_tree_reading.specs.Walk.{IsLeaf, StaysFalse, ahead, is_on_way, items_ahead, on_way}
use Rattle.be_tree_reading.specs.Way.{IsLastOf, numbers_in}
use Rattle.be_tree_reading.proofs.Frame.{unchanged_trans}
use Rattle.be_tree_reading.proofs.Reading.LastBytes.{got_all}
use Rattle.be_tree_reading.proofs.Reading.Leaves.{long_left, long_right}
use Rattle.be_tree_reading.proofs.Walks.{ahead_is, first_of_run, got_run, last_of_run, leaf_read, place_ahead, stays_right, take_nothing, walk_read}
use Rattle.be_tree_reading.proofs.ordered.push_ahead.Given.{Over}
use Rattle.be_tree_reading.proofs.ordered.push_ahead.Goals as goal
use Rattle.be_tree_reading.proofs.ordered.push_ahead.Goals.{After-run_in-run}

pub leaves-init : goal.leaves-init
leaves-init g c = record {
  walk = c.requires.walk;
  back = c.requires.back;
  long = c.requires.long;
  ends = c.requires.ends;
  passed = [];
  parts = refl;
  last = refl;
  has = record { got = []; parts = refl; is = sym (append-nil c.args.found.now.items) };
  unchanged = record { kept = refl; page_state = refl; words = refl };
}

pub step_leaf-requires : goal.step_leaf-requires
step_leaf-requires g c =
    let i = c.leaves.invariant in
    record {
      walk = walk_read (g.L.Look.page_state c.args.look.now) (g.L.Look.page_state c.leaves.look) (g.L.Look.words c.args.look.now) (g.L.Look.words c.leaves.look) c.leaves.walk i.unchanged.page_state i.unchanged.words i.walk;
    }

-- the walk has nothing ahead
pub returns-in_default-clause-found : goal.returns-in_default-clause-found
returns-in_default-clause-found g c =
    let words = g.L.Look.words c.args.look.now in
    let i = c.leaves.invariant in
    let way = c.args.way in
    let none : ahead words c.leaves.walk ≡ [] = subst (λ (w : ℕ → ℕ → ℕ). ahead w c.leaves.walk ≡ []) i.unchanged.words c.in_default.ensures.none in
    got_all c.args.found.now.items (numbers_in (take c.args.most (on_way way (ahead words c.args.walk.now)))) (numbers_in (take c.leaves.want (on_way way (ahead words c.leaves.walk)))) c.leaves.found.items
    (ap (λ (xs : List Pair). numbers_in (take c.leaves.want (on_way way xs))) none ∙ ap (λ (xs : List Pair). numbers_in xs) (take_nothing c.leaves.want)) i.has

pub returns-in_default-clause-last : goal.returns-in_default-clause-last
returns-in_default-clause-last g c =
    let words = g.L.Look.words c.args.look.now in
    let i = c.leaves.invariant in
    let way = c.args.way in
    let none : ahead words c.leaves.walk ≡ [] = subst (λ (w : ℕ → ℕ → ℕ). ahead w c.leaves.walk ≡ []) i.unchanged.words c.in_default.ensures.none in
    subst (λ (xs : List Pair). IsLastOf (g.L.Look.page_state c.args.look.now) words c.leaves.last xs)
    (sym (i.parts ∙ ap (λ (xs : List Pair). i.passed ++ xs) (ap (λ (xs : List Pair). take c.leaves.want (on_way way xs)) none ∙ take_nothing c.leaves.want) ∙ append-nil i.passed)) i.last

-- the leaf that the walk reached, and what it has ahead
pub run_in-run-requires-clause-leaf : goal.run_in-run-requires-clause-leaf
run_in-run-requires-clause-leaf g c =
    leaf_read (g.L.Look.page_state c.leaves.look) (g.L.Look.page_state c.step_leaf.new.look) (g.L.Look.words c.leaves.look) (g.L.Look.words c.step_leaf.new.look) c.in-Some.leaf
    c.step_leaf.ensures.unchanged.page_state c.step_leaf.ensures.unchanged.words c.in-Some.ensures.leaf

pub run_in-run-requires-clause-back : goal.run_in-run-requires-clause-back
run_in-run-requires-clause-back g c = c.in-Some.ensures.turned ∙ c.leaves.invariant.back

pub run_in-run-requires-clause-some : goal.run_in-run-requires-clause-some
run_in-run-requires-clause-some g c = subst (λ (w : ℕ → ℕ → ℕ). 0 < length (items_ahead w c.in-Some.leaf)) (sym c.step_leaf.ensures.unchanged.words) c.in-Some.ensures.some

read : (g : Over) (c : After-run_in-run g) → g.L.Look.words c.step_leaf.new.look ≡ g.L.Look.words c.args.look.now
read g c = c.step_leaf.ensures.unchanged.words ∙ c.leaves.invariant.unchanged.words

states : (g : Over) (c : After-run_in-run g) → g.L.Look.page_state c.step_leaf.new.look ≡ g.L.Look.page_state c.args.look.now
states g c = c.step_leaf.ensures.unchanged.page_state ∙ c.leaves.invariant.unchanged.page_state

leaf_is : (g : Over) (c : After-run_in-run g) → IsLeaf (g.L.Look.page_state c.args.look.now) (g.L.Look.words c.args.look.now) c.in-Some.leaf
leaf_is g c =
    leaf_read (g.L.Look.page_state c.leaves.look) (g.L.Look.page_state c.args.look.now) (g.L.Look.words c.leaves.look) (g.L.Look.words c.args.look.now) c.in-Some.leaf
    (sym c.leaves.invariant.unchanged.page_state) (sym c.leaves.invariant.unchanged.words) c.in-Some.ensures.leaf

-- the leaf's items that the walk has ahead
abbrev here : (g : Over) (c : After-run_in-run g) → List Pair
here g c = items_ahead (g.L.Look.words c.args.look.now) c.in-Some.leaf

abbrev rest : (g : Over) (c : After-run_in-run g) → List Pair
rest g c = ahead (g.L.Look.words c.args.look.now) c.step_leaf.new.self

parts : (g : Over) (c : After-run_in-run g) → ahead (g.L.Look.words c.args.look.now) c.leaves.walk ≡ here g c ++ rest g c
parts g c =
    subst (λ (w : ℕ → ℕ → ℕ). ahead w c.leaves.walk ≡ items_ahead w c.in-Some.leaf ++ ahead w c.step_leaf.new.self) c.leaves.invariant.unchanged.words c.in-Some.ensures.parts

in_range : (g : Over) (c : After-run_in-run g) → c.run_in-run.result.count ≤ length (here g c)
in_range g c = subst (λ (w : ℕ → ℕ → ℕ). c.run_in-run.result.count ≤ length (items_ahead w c.in-Some.leaf)) (read g c) c.run_in-run.ensures.in_range

-- the run is the first part of what was wanted
step : (g : Over) (c : After-run_in-run g) → take c.leaves.want (on_way c.args.way (ahead (g.L.Look.words c.args.look.now) c.leaves.walk))
    ≡ take c.run_in-run.result.count (here g c) ++ take c.run_in-run.result.want (on_way c.args.way (rest g c))
step g c =
    let way = c.args.way in
    let leaf = c.in-Some.leaf in
    ap (λ (xs : List Pair). take c.leaves.want (on_way way xs)) (parts g c)
    ∙ subst (λ (w : ℕ → ℕ → ℕ). (xs : List Pair) → StaysFalse (is_on_way way) (items_ahead w leaf ++ xs)
    → take c.leaves.want (on_way way (items_ahead w leaf ++ xs)) ≡ take c.run_in-run.result.count (items_ahead w leaf) ++ take c.run_in-run.result.want (on_way way xs))
    (read g c) c.run_in-run.ensures.parts (rest g c) (subst (StaysFalse (is_on_way way)) (parts g c) c.leaves.invariant.ends)

-- the run is empty, so nothing more is wanted
ended : (g : Over) (c : After-run_in-run g) → c.run_in-run.result.count ≡ 0 → take c.leaves.want (on_way c.args.way (ahead (g.L.Look.words c.args.look.now) c.leaves.walk)) ≡ []
ended g c none =
    step g c
    ∙ ap (λ (n : ℕ). take n (here g c) ++ take c.run_in-run.result.want (on_way c.args.way (rest g c))) none
    ∙ ap (λ (n : ℕ). take n (on_way c.args.way (rest g c))) (c.run_in-run.ensures.ended none)

pub returns-then-run-eq0-clause-found : goal.returns-then-run-eq0-clause-found
returns-then-run-eq0-clause-found g c =
    let at = (goal.at.returns-then-run-eq0-clause-found g c).After-run_in-run in
    let words = g.L.Look.words c.args.look.now in
    got_all c.args.found.now.items (numbers_in (take c.args.most (on_way c.args.way (ahead words c.args.walk.now)))) (numbers_in (take c.leaves.want (on_way c.args.way (ahead words c.leaves.walk)))) c.leaves.found.items
    (ap (λ (xs : List Pair). numbers_in xs) (ended g at c.if-run-eq0.true)) c.leaves.invariant.has

pub returns-then-run-eq0-clause-last : goal.returns-then-run-eq0-clause-last
returns-then-run-eq0-clause-last g c =
    let at = (goal.at.returns-then-run-eq0-clause-last g c).After-run_in-run in
    let i = c.leaves.invariant in
    subst (λ (xs : List Pair). IsLastOf (g.L.Look.page_state c.args.look.now) (g.L.Look.words c.args.look.now) c.leaves.last xs)
    (sym (i.parts ∙ ap (λ (xs : List Pair). i.passed ++ xs) (ended g at c.if-run-eq0.true) ∙ append-nil i.passed)) i.last

-- the leaf's numbers are added
pub push_run-requires-clause-leaf : goal.push_run-requires-clause-leaf
push_run-requires-clause-leaf g c =
    let at = (goal.at.push_run-requires-clause-leaf g c).After-run_in-run in
    leaf_read (g.L.Look.page_state c.args.look.now) (g.L.Look.page_state c.run_in-run.new.look) (g.L.Look.words c.args.look.now) (g.L.Look.words c.run_in-run.new.look) c.in-Some.leaf
    (c.run_in-run.ensures.unchanged.page_state ∙ states g at) (c.run_in-run.ensures.unchanged.words ∙ read g at) (leaf_is g at)

pub push_run-requires-clause-in_range : goal.push_run-requires-clause-in_range
push_run-requires-clause-in_range g c =
    subst (λ (w : ℕ → ℕ → ℕ). c.run_in-run.result.count ≤ length (items_ahead w c.in-Some.leaf)) (sym c.run_in-run.ensures.unchanged.words) c.run_in-run.ensures.in_range

pub push_run-requires-clause-long : goal.push_run-requires-clause-long
push_run-requires-clause-long g c =
    let at = (goal.at.push_run-requires-clause-long g c).After-run_in-run in
    subst (λ (w : ℕ → ℕ → ℕ). AreLong (items_ahead w c.in-Some.leaf)) (sym (c.run_in-run.ensures.unchanged.words ∙ read g at))
    (long_left (here g at) (rest g at) (subst AreLong (parts g at) c.leaves.invariant.long))

pub returns-in_err-push_run-clause-first : goal.returns-in_err-push_run-clause-first
returns-in_err-push_run-clause-first g c =
    let at = (goal.at.returns-in_err-push_run-clause-first g c).After-run_in-run in
    let words = g.L.Look.words c.args.look.now in
    let way = c.args.way in
    let run = take c.run_in-run.result.count (here g at) in
    first_of_run c.args.found.now.items (numbers_in (take c.args.most (on_way way (ahead words c.args.walk.now)))) c.leaves.found.items c.push_run.new.found.items
    (take c.leaves.want (on_way way (ahead words c.leaves.walk))) run (take c.run_in-run.result.want (on_way way (rest g at))) c.leaves.invariant.has (step g at)
    (subst (λ (w : ℕ → ℕ → ℕ). HasFirst c.leaves.found.items (numbers_in (take c.run_in-run.result.count (items_ahead w c.in-Some.leaf))) c.push_run.new.found.items) (c.run_in-run.ensures.unchanged.words ∙ read g at)
    c.push_run.ensures.first)

-- the last item of the run
pub overflow_sub-run : goal.overflow_sub-run
overflow_sub-run g c = omega (arith, c.if-run-eq0.false)

pub place-at-requires : goal.place-at-requires
place-at-requires g c =
    let at = (goal.at.place-at-requires g c).After-run_in-run in
    ahead_is (g.L.Look.page_state c.args.look.now) (g.L.Look.words c.args.look.now) c.in-Some.leaf (c.run_in-run.result.count - 1) (leaf_is g at) (omega (arith, in_range g at, c.if-run-eq0.false))

pub leaves-smaller : goal.leaves-smaller
leaves-smaller g c = c.run_in-run.ensures.less

pub leaves-preserved : goal.leaves-preserved
leaves-preserved g c =
    let at = (goal.at.leaves-preserved g c).After-run_in-run in
    let page_state = g.L.Look.page_state c.args.look.now in
    let words = g.L.Look.words c.args.look.now in
    let way = c.args.way in
    let i = c.leaves.invariant in
    let leaf = c.in-Some.leaf in
    let count = c.run_in-run.result.count in
    let zs = here g at in
    let more = take c.run_in-run.result.want (on_way way (rest g at)) in
    let lt : count - 1 < length zs = omega (arith, in_range g at, c.if-run-eq0.false) in
    let place = place_ahead page_state page_state words words leaf (count - 1) c.place-at.result refl refl c.place-at.ensures (leaf_is g at) lt in
    let pushed = subst (λ (w : ℕ → ℕ → ℕ). c.push_run.new.found.items ≡ c.leaves.found.items ++ numbers_in (take count (items_ahead w leaf))) (c.run_in-run.ensures.unchanged.words ∙ read g at) c.in_ok-push_run.ensures.found in
    record {
      walk = walk_read (g.L.Look.page_state c.leaves.look) page_state (g.L.Look.words c.leaves.look) words c.step_leaf.new.self (sym i.unchanged.page_state) (sym i.unchanged.words) c.step_leaf.ensures.walk;
      back = c.step_leaf.ensures.back ∙ i.back;
      long = long_right zs (rest g at) (subst AreLong (parts g at) i.long);
      ends = stays_right (is_on_way way) zs (rest g at) (subst (StaysFalse (is_on_way way)) (parts g at) i.ends);
      passed = i.passed ++ take count zs;
      parts = i.parts ∙ ap (λ (xs : List Pair). i.passed ++ xs) (step g at) ∙ sym (append_assoc i.passed (take count zs) more);
      last = last_of_run page_state words leaf.page c.place-at.result count i.passed zs place.readable (omega (arith, c.if-run-eq0.false)) (in_range g at) (λ d. sym (place.same d));
      has = got_run c.args.found.now.items (numbers_in (take c.args.most (on_way way (ahead words c.args.walk.now)))) c.leaves.found.items c.push_run.new.found.items
          (take c.leaves.want (on_way way (ahead words c.leaves.walk))) (take count zs) more i.has (step g at) pushed;
      unchanged = unchanged_trans g.L.Look.kept g.L.Look.page_state g.L.Look.words c.args.look.now c.run_in-run.new.look c.push_run.new.look
          (unchanged_trans g.L.Look.kept g.L.Look.page_state g.L.Look.words c.args.look.now c.step_leaf.new.look c.run_in-run.new.look
          (unchanged_trans g.L.Look.kept g.L.Look.page_state g.L.Look.words c.args.look.now c.leaves.look c.step_leaf.new.look i.unchanged c.step_leaf.ensures.unchanged) c.run_in-run.ensures.unchanged)
          c.push_run.ensures.unchanged;
    }

-- nothing more is wanted
pub returns-clause-found : goal.returns-clause-found
returns-clause-found g c =
    let words = g.L.Look.words c.args.look.now in
    let i = c.leaves.invariant in
    let xs = on_way c.args.way (ahead words c.leaves.walk) in
    let none : c.leaves.want ≡ 0 = omega (arith, c.leaves-test.false) in
    got_all c.args.found.now.items (numbers_in (take c.args.most (on_way c.args.way (ahead words c.args.walk.now)))) (numbers_in (take c.leaves.want xs)) c.leaves.found.items (ap (λ (n : ℕ). numbers_in (take n xs)) none) i.has

pub returns-clause-last : goal.returns-clause-last
returns-clause-last g c =
    let words = g.L.Look.words c.args.look.now in
    let i = c.leaves.invariant in
    let none : c.leaves.want ≡ 0 = omega (arith, c.leaves-test.false) in
    subst (λ (xs : List Pair). IsLastOf (g.L.Look.page_state c.args.look.now) words c.leaves.last xs)
    (sym (i.parts ∙ ap (λ (n : ℕ). i.passed ++ take n (on_way c.args.way (ahead words c.leaves.walk))) none ∙ append-nil i.passed)) i.last
