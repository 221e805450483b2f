use Rattle.std.proofs.Common.{◌≡◌, ◌∙◌, ◌⊎◌, ℕ, ◌-◌, ◌<◌, ◌≤◌, false, true, length, get_or, inl, inr, ap, subst, arith}
use Rattle.be_tree_reading.specs.Pair.{Pair}
use Rattle.be_tree_reading.specs.Walk.{is_on_way, items_ahead}
use Rattle.be_tree_reading.proofs.Walks.{leaf_read, run_ends, run_goes_on}
use Rattle.be_tree_reading.proofs.ordered.run_in.Given.{Over}
use Rattle.be_tree_reading.proofs.ordered.run_in.Goals as goal
use Rattle.be_tree_reading.proofs.ordered.run_in.Goals.{After-count_within-count}

pub count_within-count-requires-clause-leaf : goal.count_within-count-requires-clause-leaf
count_within-count-requires-clause-leaf g c =
    leaf_read (g.L.Look.page_state c.args.look.now) (g.L.Look.page_state c.count-ahead.new.look) (g.L.Look.words c.args.look.now) (g.L.Look.words c.count-ahead.new.look) c.args.leaf
    c.count-ahead.ensures.unchanged.page_state c.count-ahead.ensures.unchanged.words c.requires.leaf

pub count_within-count-requires-clause-in_range : goal.count_within-count-requires-clause-in_range
count_within-count-requires-clause-in_range g c =
    omega (arith, c.smaller_of-most.ensures.at_most.0, c.count-ahead.ensures.count, ap (λ (w : ℕ → ℕ → ℕ). length (items_ahead w c.args.leaf)) c.count-ahead.ensures.unchanged.words)

-- what `count_within` says about the leaf's items
within : (g : Over) (c : After-count_within-count g) → (d : Pair) → 0 < c.count_within-count.result
    → is_on_way c.args.way (get_or (items_ahead (g.L.Look.words c.args.look.now) c.args.leaf) (c.count_within-count.result - 1) d).key ≡ true
within g c =
    subst (λ (w : ℕ → ℕ → ℕ). (d : Pair) → 0 < c.count_within-count.result → is_on_way c.args.way (get_or (items_ahead w c.args.leaf) (c.count_within-count.result - 1) d).key ≡ true)
    c.count-ahead.ensures.unchanged.words c.count_within-count.ensures.within

past : (g : Over) (c : After-count_within-count g) → (d : Pair) → c.count_within-count.result < c.smaller_of-most.result
    → is_on_way c.args.way (get_or (items_ahead (g.L.Look.words c.args.look.now) c.args.leaf) c.count_within-count.result d).key ≡ false
past g c =
    subst (λ (w : ℕ → ℕ → ℕ). (d : Pair) → c.count_within-count.result < c.smaller_of-most.result → is_on_way c.args.way (get_or (items_ahead w c.args.leaf) c.count_within-count.result d).key ≡ false)
    c.count-ahead.ensures.unchanged.words c.count_within-count.ensures.past

in_leaf : (g : Over) (c : After-count_within-count g) → c.smaller_of-most.result ≤ length (items_ahead (g.L.Look.words c.args.look.now) c.args.leaf)
in_leaf g c = omega (arith, c.smaller_of-most.ensures.at_most.0, c.count-ahead.ensures.count)

whole : (g : Over) (c : After-count_within-count g) → (c.smaller_of-most.result ≡ length (items_ahead (g.L.Look.words c.args.look.now) c.args.leaf)) ⊎ (c.smaller_of-most.result ≡ c.args.want)
whole g c = elim c.smaller_of-most.ensures.one [ inl e ↦ inl (e ∙ c.count-ahead.ensures.count) | inr e ↦ inr e ]

some : (g : Over) (c : After-count_within-count g) → 0 < c.smaller_of-most.result
some g c = elim (whole g c) [ inl e ↦ omega (arith, e, c.requires.some) | inr e ↦ omega (arith, e, c.requires.wanted) ]

pub returns-then-count-most-clause-in_range : goal.returns-then-count-most-clause-in_range
returns-then-count-most-clause-in_range g c =
    omega (arith, in_leaf g (goal.at.returns-then-count-most-clause-in_range g c).After-count_within-count, c.count_within-count.ensures.at_most)

pub returns-then-count-most-clause-parts : goal.returns-then-count-most-clause-parts
returns-then-count-most-clause-parts g c = λ rest stays.
    let at = (goal.at.returns-then-count-most-clause-parts g c).After-count_within-count in
    run_ends (is_on_way c.args.way) (items_ahead (g.L.Look.words c.args.look.now) c.args.leaf) rest c.args.want c.count_within-count.result c.smaller_of-most.result stays
    (in_leaf g at) c.smaller_of-most.ensures.at_most.1 c.count_within-count.ensures.at_most (within g at) (past g at) c.if-count-most.true

pub overflow_sub-result : goal.overflow_sub-result
overflow_sub-result g c = omega (arith, c.count_within-count.ensures.at_most, c.smaller_of-most.ensures.at_most.1)

pub returns-clause-in_range : goal.returns-clause-in_range
returns-clause-in_range g c = omega (arith, in_leaf g (goal.at.returns-clause-in_range g c).After-count_within-count, c.count_within-count.ensures.at_most)

pub returns-clause-less : goal.returns-clause-less
returns-clause-less g c = omega (arith, some g (goal.at.returns-clause-less g c).After-count_within-count, c.if-count-most.false, c.requires.wanted)

pub returns-clause-ended : goal.returns-clause-ended
returns-clause-ended g c = λ none. absurd (omega (arith, none, some g (goal.at.returns-clause-ended g c).After-count_within-count, c.if-count-most.false))

pub returns-clause-parts : goal.returns-clause-parts
returns-clause-parts g c = λ rest stays.
    let at = (goal.at.returns-clause-parts g c).After-count_within-count in
    run_goes_on (is_on_way c.args.way) (items_ahead (g.L.Look.words c.args.look.now) c.args.leaf) rest c.args.want c.count_within-count.result c.smaller_of-most.result stays
    (in_leaf g at) c.smaller_of-most.ensures.at_most.1 c.count_within-count.ensures.at_most (within g at) (omega (arith, c.if-count-most.false, c.count_within-count.ensures.at_most)) (whole g at)
