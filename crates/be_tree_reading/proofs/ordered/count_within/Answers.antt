use Rattle.std.proofs.Common.{◌≡◌, ◌∙◌, ℕ, ◌-◌, ◌<◌, length, get_or, refl, ap, sym, arith}
use Rattle.be_tree_reading.specs.Pair.{Pair}
use Rattle.be_tree_reading.specs.Walk.{is_on_way, items_ahead}
use Rattle.be_tree_reading.proofs.Frame.{unchanged_trans}
use Rattle.be_tree_reading.proofs.Walks.{IsPlaceAhead, ahead_is, place_ahead}
use Rattle.be_tree_reading.proofs.ordered.count_within.Given.{Over}
use Rattle.be_tree_reading.proofs.ordered.count_within.Goals as goal
use Rattle.be_tree_reading.proofs.ordered.count_within.Goals.{After-place-at}

pub loop-count-init : goal.loop-count-init
loop-count-init g c = record { at_most = omega arith; past = λ d lt. absurd (omega (arith, lt)); unchanged = record { kept = refl; page_state = refl; words = refl } }

-- the last of the items left
within_leaf : (g : Over) (c : After-place-at g) → c.loop-count.count - 1 < length (items_ahead (g.L.Look.words c.args.look.now) c.args.leaf)
within_leaf g c = omega (arith, c.loop-count-test.true, c.loop-count.invariant.at_most, c.requires.in_range)

pub place-at-requires : goal.place-at-requires
place-at-requires g c =
    ahead_is (g.L.Look.page_state c.args.look.now) (g.L.Look.words c.args.look.now) c.args.leaf (c.loop-count.count - 1) c.requires.leaf
    (omega (arith, c.loop-count-test.true, c.loop-count.invariant.at_most, c.requires.in_range))

here : (g : Over) (c : After-place-at g) → IsPlaceAhead (g.L.Look.page_state c.loop-count.look) (g.L.Look.words c.loop-count.look) (g.L.Look.words c.args.look.now) c.args.leaf (c.loop-count.count - 1) c.place-at.result
here g c =
    let i = c.loop-count.invariant in
    place_ahead (g.L.Look.page_state c.args.look.now) (g.L.Look.page_state c.loop-count.look) (g.L.Look.words c.args.look.now) (g.L.Look.words c.loop-count.look) c.args.leaf (c.loop-count.count - 1) c.place-at.result
    i.unchanged.page_state i.unchanged.words c.place-at.ensures c.requires.leaf (within_leaf g c)

pub is_within-requires-clause-readable : goal.is_within-requires-clause-readable
is_within-requires-clause-readable g c = (here g (goal.at.is_within-requires-clause-readable g c).After-place-at).readable.0

pub is_within-requires-clause-in_page : goal.is_within-requires-clause-in_page
is_within-requires-clause-in_page g c = (here g (goal.at.is_within-requires-clause-in_page g c).After-place-at).readable.1.0

pub is_within-requires-clause-item : goal.is_within-requires-clause-item
is_within-requires-clause-item g c = (here g (goal.at.is_within-requires-clause-item g c).After-place-at).readable.1.1

pub returns-then-is_within-clause-within : goal.returns-then-is_within-clause-within
returns-then-is_within-clause-within g c = λ d some.
    ap (λ (x : Pair). is_on_way c.args.way x.key) (sym ((here g (goal.at.returns-then-is_within-clause-within g c).After-place-at).same d)) ∙ sym c.is_within.ensures.within ∙ c.if-is_within.true

pub loop-count-preserved : goal.loop-count-preserved
loop-count-preserved g c = record {
  at_most = omega (arith, c.loop-count.invariant.at_most);
  past = λ d lt.
      ap (λ (x : Pair). is_on_way c.args.way x.key) (sym ((here g (goal.at.loop-count-preserved g c).After-place-at).same d)) ∙ sym c.is_within.ensures.within ∙ c.if-is_within.false;
  unchanged = unchanged_trans g.L.Look.kept g.L.Look.page_state g.L.Look.words c.args.look.now c.loop-count.look c.is_within.new.look c.loop-count.invariant.unchanged c.is_within.ensures.unchanged;
}

pub returns-clause-within : goal.returns-clause-within
returns-clause-within g c = λ d lt. absurd (omega (arith, lt))

pub returns-clause-past : goal.returns-clause-past
returns-clause-past g c = λ d lt.
    let none : c.loop-count.count ≡ 0 = omega (arith, c.loop-count-test.false) in
    ap (λ (n : ℕ). is_on_way c.args.way (get_or (items_ahead (g.L.Look.words c.args.look.now) c.args.leaf) n d).key) (sym none) ∙ c.loop-count.invariant.past d (omega (arith, lt, none))
