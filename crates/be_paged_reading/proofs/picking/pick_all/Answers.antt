use Rattle.std.proofs.Common.{◌≡◌, ◌∙◌, ◌<◌, ◌++◌, ℕ, List, [], length, take, refl, ap, sym, subst, arith, append_assoc}
use Rattle.std.proofs.lemmas.List.{append-nil, length-append, take_all}
use Rattle.be_tree_reading.specs.Pair.{Pair}
use Rattle.be_tree_reading.specs.Walk.{StaysFalse, ahead, is_on_way, items_ahead}
use Rattle.be_tree_reading.proofs.Frame.{unchanged_trans}
use Rattle.be_tree_reading.proofs.Shape.Below.{all_left, all_right}
use Rattle.be_tree_reading.proofs.Walks.{leaf_read, stays_right, walk_read}
use Rattle.be_paged_reading.specs.KeyTests.{AreTestable, IsTestable, passing_on}
use Rattle.be_paged_reading.proofs.Asking.Picking.{two_parts}
use Rattle.be_paged_reading.proofs.picking.pick_all.Given.{Over}
use Rattle.be_paged_reading.proofs.picking.pick_all.Goals as goal
use Rattle.be_paged_reading.proofs.picking.pick_all.Goals.{After-pick_ahead}

pub leaves-init : goal.leaves-init
leaves-init g c = record {
  walk = c.requires.walk;
  back = c.requires.back;
  testable = c.requires.testable;
  ends = c.requires.ends;
  size = refl;
  few = omega (arith, ap length c.requires.empty);
  parts = sym (ap (λ (ns : List ℕ). ns ++ passing_on c.args.test c.args.way (ahead (g.L.Look.words c.args.look.now) c.args.walk.now)) c.requires.empty);
  unchanged = record { kept = refl; page_state = refl; words = refl };
}

pub step_leaf-requires : goal.step_leaf-requires
step_leaf-requires g c =
    let i = c.leaves.invariant in
    record {
      walk = walk_read (g.L.Look.page_state c.args.look.now) (g.L.Look.page_state c.leaves.look) (g.L.Look.words c.args.look.now) (g.L.Look.words c.leaves.look) c.leaves.walk i.unchanged.page_state i.unchanged.words i.walk;
    }

read : (g : Over) (c : After-pick_ahead g) → g.L.Look.words c.step_leaf.new.look ≡ g.L.Look.words c.args.look.now
read g c = c.step_leaf.ensures.unchanged.words ∙ c.leaves.invariant.unchanged.words

-- The items of the leaf that are ahead of the walk.
abbrev here : (g : Over) (c : After-pick_ahead g) → List Pair
here g c = items_ahead (g.L.Look.words c.args.look.now) c.in-Some.leaf

abbrev rest : (g : Over) (c : After-pick_ahead g) → List Pair
rest g c = ahead (g.L.Look.words c.args.look.now) c.step_leaf.new.self

parts : (g : Over) (c : After-pick_ahead g) → ahead (g.L.Look.words c.args.look.now) c.leaves.walk ≡ here g c ++ rest g c
parts g c =
    subst (λ (w : ℕ → ℕ → ℕ). ahead w c.leaves.walk ≡ items_ahead w c.in-Some.leaf ++ ahead w c.step_leaf.new.self) c.leaves.invariant.unchanged.words c.in-Some.ensures.parts

pub pick_ahead-requires-clause-leaf : goal.pick_ahead-requires-clause-leaf
pick_ahead-requires-clause-leaf g c =
    leaf_read (g.L.Look.page_state c.leaves.look) (g.L.Look.page_state c.step_leaf.new.look) (g.L.Look.words c.leaves.look) (g.L.Look.words c.step_leaf.new.look) c.in-Some.leaf
    c.step_leaf.ensures.unchanged.page_state c.step_leaf.ensures.unchanged.words c.in-Some.ensures.leaf

pub pick_ahead-requires-clause-back : goal.pick_ahead-requires-clause-back
pick_ahead-requires-clause-back g c = c.in-Some.ensures.turned ∙ c.leaves.invariant.back

pub pick_ahead-requires-clause-testable : goal.pick_ahead-requires-clause-testable
pick_ahead-requires-clause-testable g c =
    let words = g.L.Look.words c.args.look.now in
    let same = c.leaves.invariant.unchanged.words in
    let apart = subst (λ (w : ℕ → ℕ → ℕ). ahead w c.leaves.walk ≡ items_ahead w c.in-Some.leaf ++ ahead w c.step_leaf.new.self) same c.in-Some.ensures.parts in
    subst (λ (w : ℕ → ℕ → ℕ). AreTestable c.args.test (items_ahead w c.in-Some.leaf)) (sym (c.step_leaf.ensures.unchanged.words ∙ same))
    (all_left (λ (x : Pair). IsTestable c.args.test x.key) (items_ahead words c.in-Some.leaf) (ahead words c.step_leaf.new.self) (subst (AreTestable c.args.test) apart c.leaves.invariant.testable))

pub pick_ahead-requires-clause-fits : goal.pick_ahead-requires-clause-fits
pick_ahead-requires-clause-fits g c = c.leaves.invariant.size

pub pick_ahead-requires-clause-few : goal.pick_ahead-requires-clause-few
pick_ahead-requires-clause-few g c = c.leaves.invariant.few

-- The walk ends in this leaf.
pub returns-then-is_last-clause-found : goal.returns-then-is_last-clause-found
returns-then-is_last-clause-found g c =
    let at = (goal.at.returns-then-is_last-clause-found g c).After-pick_ahead in
    let i = c.leaves.invariant in
    let way = c.args.way in
    let nodes = λ (xs : List Pair). passing_on c.args.test way xs in
    let stays : StaysFalse (is_on_way way) (here g at ++ rest g at) = subst (StaysFalse (is_on_way way)) (parts g at) i.ends in
    let put = subst (λ (w : ℕ → ℕ → ℕ). (xs : List Pair) → StaysFalse (is_on_way way) (items_ahead w c.in-Some.leaf ++ xs)
    → c.pick_ahead.new.found.items ≡ take c.args.most (c.leaves.found.items ++ nodes (items_ahead w c.in-Some.leaf ++ xs))) (read g at) (c.in_ok-is_last.ensures.ended c.if-is_last.true) in
    put (rest g at) stays ∙ ap (take c.args.most) (ap (λ (xs : List Pair). c.leaves.found.items ++ nodes xs) (sym (parts g at)) ∙ sym i.parts)

pub leaves-smaller : goal.leaves-smaller
leaves-smaller g c =
    let at = (goal.at.leaves-smaller g c).After-pick_ahead in
    let some = subst (λ (w : ℕ → ℕ → ℕ). 0 < length (items_ahead w c.in-Some.leaf)) c.leaves.invariant.unchanged.words c.in-Some.ensures.some in
    omega (arith, ap length (parts g at), length-append (here g at) (rest g at), some)

pub leaves-preserved : goal.leaves-preserved
leaves-preserved g c =
    let at = (goal.at.leaves-preserved g c).After-pick_ahead in
    let i = c.leaves.invariant in
    let way = c.args.way in
    let nodes = λ (xs : List Pair). passing_on c.args.test way xs in
    let before = c.leaves.found.items in
    let zs = here g at in
    let later = rest g at in
    let pushed = subst (λ (w : ℕ → ℕ → ℕ). c.pick_ahead.new.found.items ≡ before ++ nodes (items_ahead w c.in-Some.leaf)) (read g at) (c.in_ok-is_last.ensures.goes_on c.if-is_last.false) in
    record {
      walk = walk_read (g.L.Look.page_state c.leaves.look) (g.L.Look.page_state c.args.look.now) (g.L.Look.words c.leaves.look) (g.L.Look.words c.args.look.now) c.step_leaf.new.self (sym i.unchanged.page_state)
          (sym i.unchanged.words) c.step_leaf.ensures.walk;
      back = c.step_leaf.ensures.back ∙ i.back;
      testable = all_right (λ (x : Pair). IsTestable c.args.test x.key) zs later (subst (AreTestable c.args.test) (parts g at) i.testable);
      ends = stays_right (is_on_way way) zs later (subst (StaysFalse (is_on_way way)) (parts g at) i.ends);
      size = omega (arith, i.size);
      few = c.in_ok-is_last.ensures.few;
      parts = i.parts
          ∙ ap (λ (xs : List Pair). before ++ nodes xs) (parts g at)
          ∙ ap (λ (ns : List ℕ). before ++ ns) (two_parts c.args.test way zs later)
          ∙ sym (append_assoc before (nodes zs) (nodes later))
          ∙ ap (λ (ns : List ℕ). ns ++ nodes later) (sym pushed);
      unchanged = unchanged_trans g.L.Look.kept g.L.Look.page_state g.L.Look.words c.args.look.now c.step_leaf.new.look c.pick_ahead.new.look
          (unchanged_trans g.L.Look.kept g.L.Look.page_state g.L.Look.words c.args.look.now c.leaves.look c.step_leaf.new.look i.unchanged c.step_leaf.ensures.unchanged)
          c.pick_ahead.ensures.unchanged;
    }

-- Nothing is ahead of the walk.
pub returns-clause-found : goal.returns-clause-found
returns-clause-found g c =
    let words = g.L.Look.words c.args.look.now in
    let i = c.leaves.invariant in
    let nodes = λ (xs : List Pair). passing_on c.args.test c.args.way xs in
    let none : ahead words c.leaves.walk ≡ [] = subst (λ (w : ℕ → ℕ → ℕ). ahead w c.leaves.walk ≡ []) i.unchanged.words c.in_default.ensures.none in
    sym (ap (take c.args.most) (i.parts ∙ ap (λ (xs : List Pair). c.leaves.found.items ++ nodes xs) none ∙ append-nil c.leaves.found.items) ∙ take_all c.args.most c.leaves.found.items i.few)
