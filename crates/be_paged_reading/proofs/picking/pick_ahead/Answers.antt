use Rattle.std.proofs.Common.{◌≡◌, ◌∙◌, ◌<◌, ◌++◌, ℕ, [], length, get_or, refl, ap, sym, subst, arith}
use Rattle.std.proofs.lemmas.List.{length-append}
use Rattle.be_tree_reading.specs.Page.{item_at}
use Rattle.be_tree_reading.specs.Pair.{Pair}
use Rattle.be_tree_reading.specs.Walk.{is_on_way, items_ahead}
use Rattle.be_tree_reading.proofs.Frame.{unchanged_trans}
use Rattle.be_tree_reading.proofs.Walks.{IsPlaceAhead, ahead_is, place_ahead}
use Rattle.be_paged_reading.specs.KeyTests.{IsTestable, node_if}
use Rattle.be_paged_reading.proofs.Asking.Picking.{all_tested, is_full, is_past, one_at_most, one_tested}
use Rattle.be_paged_reading.proofs.picking.pick_ahead.Given.{Over}
use Rattle.be_paged_reading.proofs.picking.pick_ahead.Goals as goal
use Rattle.be_paged_reading.proofs.picking.pick_ahead.Goals.{After-is_ahead, After-place-at}

none : Pair
none = record { key = []; payload = [] }

pub loop-i-init : goal.loop-i-init
loop-i-init g c = record { parts = refl; few = c.requires.few; unchanged = c.count-ahead.ensures.unchanged }

in_leaf : (g : Over) (c : After-place-at g) → c.loop-i.i < length (items_ahead (g.L.Look.words c.args.look.now) c.args.leaf)
in_leaf g c = omega (arith, c.loop-i-test.true, c.count-ahead.ensures.count)

pub place-at-requires : goal.place-at-requires
place-at-requires g c =
    ahead_is (g.L.Look.page_state c.args.look.now) (g.L.Look.words c.args.look.now) c.args.leaf c.loop-i.i c.requires.leaf (omega (arith, c.loop-i-test.true, c.count-ahead.ensures.count))

here : (g : Over) (c : After-place-at g) → IsPlaceAhead (g.L.Look.page_state c.loop-i.look) (g.L.Look.words c.loop-i.look) (g.L.Look.words c.args.look.now) c.args.leaf c.loop-i.i c.place-at.result
here g c =
    let i = c.loop-i.invariant in
    place_ahead (g.L.Look.page_state c.args.look.now) (g.L.Look.page_state c.loop-i.look) (g.L.Look.words c.args.look.now) (g.L.Look.words c.loop-i.look) c.args.leaf c.loop-i.i c.place-at.result
    i.unchanged.page_state i.unchanged.words c.place-at.ensures c.requires.leaf (in_leaf g c)

pub is_ahead-requires-clause-readable : goal.is_ahead-requires-clause-readable
is_ahead-requires-clause-readable g c = (here g (goal.at.is_ahead-requires-clause-readable g c).After-place-at).readable.0

pub is_ahead-requires-clause-in_page : goal.is_ahead-requires-clause-in_page
is_ahead-requires-clause-in_page g c = (here g (goal.at.is_ahead-requires-clause-in_page g c).After-place-at).readable.1.0

pub is_ahead-requires-clause-item : goal.is_ahead-requires-clause-item
is_ahead-requires-clause-item g c = (here g (goal.at.is_ahead-requires-clause-item g c).After-place-at).readable.1.1

-- The item, after it was compared with the end of the way.
compared : (g : Over) (c : After-is_ahead g) → IsPlaceAhead (g.L.Look.page_state c.is_ahead.new.look) (g.L.Look.words c.is_ahead.new.look) (g.L.Look.words c.args.look.now) c.args.leaf c.loop-i.i c.place-at.result
compared g c =
    let i = c.loop-i.invariant in
    place_ahead (g.L.Look.page_state c.args.look.now) (g.L.Look.page_state c.is_ahead.new.look) (g.L.Look.words c.args.look.now) (g.L.Look.words c.is_ahead.new.look) c.args.leaf c.loop-i.i c.place-at.result
    (c.is_ahead.ensures.unchanged.page_state ∙ i.unchanged.page_state) (c.is_ahead.ensures.unchanged.words ∙ i.unchanged.words) c.place-at.ensures c.requires.leaf
    (omega (arith, c.loop-i-test.true, c.count-ahead.ensures.count))

-- Whether the item is on the way.
reported : (g : Over) (c : After-is_ahead g) → c.is_ahead.result ≡ is_on_way c.args.way (get_or (items_ahead (g.L.Look.words c.args.look.now) c.args.leaf) c.loop-i.i none).key
reported g c =
    c.is_ahead.ensures.within
    ∙ ap (λ (w : ℕ → ℕ → ℕ). is_on_way c.args.way (item_at (w c.args.leaf.page) c.place-at.result).key) (sym c.is_ahead.ensures.unchanged.words)
    ∙ ap (λ (x : Pair). is_on_way c.args.way x.key) ((compared g c).same none)

pub pick_item-requires-clause-readable : goal.pick_item-requires-clause-readable
pick_item-requires-clause-readable g c = (compared g (goal.at.pick_item-requires-clause-readable g c).After-is_ahead).readable.0

pub pick_item-requires-clause-in_page : goal.pick_item-requires-clause-in_page
pick_item-requires-clause-in_page g c = (compared g (goal.at.pick_item-requires-clause-in_page g c).After-is_ahead).readable.1.0

pub pick_item-requires-clause-item : goal.pick_item-requires-clause-item
pick_item-requires-clause-item g c = (compared g (goal.at.pick_item-requires-clause-item g c).After-is_ahead).readable.1.1

pub pick_item-requires-clause-testable : goal.pick_item-requires-clause-testable
pick_item-requires-clause-testable g c =
    subst (λ (x : Pair). IsTestable c.args.test x.key) (sym ((compared g (goal.at.pick_item-requires-clause-testable g c).After-is_ahead).same none))
    (c.requires.testable c.loop-i.i none (omega (arith, c.loop-i-test.true, c.count-ahead.ensures.count)))

pub loop-i-preserved : goal.loop-i-preserved
loop-i-preserved g c =
    let b = (goal.at.loop-i-preserved g c).After-is_ahead in
    let zs = items_ahead (g.L.Look.words c.args.look.now) c.args.leaf in
    let x = get_or zs c.loop-i.i none in
    let before = c.loop-i.found.items in
    let i = c.loop-i.invariant in
    let lt : c.loop-i.i < length zs = omega (arith, c.loop-i-test.true, c.count-ahead.ensures.count) in
    let added : c.pick_item.new.found.items ≡ before ++ node_if c.args.test x =
    c.in_ok-pick_item.ensures.added ∙ ap (λ (y : Pair). before ++ node_if c.args.test y) ((compared g b).same none) in
    record {
      parts = one_tested c.args.test c.args.way c.args.found.now.items before zs c.loop-i.i i.parts none c.pick_item.new.found.items lt (sym (reported g b) ∙ c.if-not-is_ahead.false) added;
      few = omega (arith, ap length added, length-append before (node_if c.args.test x), one_at_most c.args.test c.args.way x, c.if-len-most.false, c.len.ensures, c.loop-i.found.ok.0);
      unchanged = unchanged_trans g.L.Look.kept g.L.Look.page_state g.L.Look.words c.args.look.now c.is_ahead.new.look c.pick_item.new.look
          (unchanged_trans g.L.Look.kept g.L.Look.page_state g.L.Look.words c.args.look.now c.loop-i.look c.is_ahead.new.look i.unchanged c.is_ahead.ensures.unchanged)
          c.pick_item.ensures.unchanged;
    }

-- The list is full.
pub returns-then-len-most-clause-ended : goal.returns-then-len-most-clause-ended
returns-then-len-most-clause-ended g c = λ _ rest stays.
    let zs = items_ahead (g.L.Look.words c.args.look.now) c.args.leaf in
    is_full c.args.test c.args.way c.args.found.now.items c.loop-i.found.items zs c.loop-i.i c.loop-i.invariant.parts c.args.most c.loop-i.invariant.few rest
    (omega (arith, c.if-len-most.true, c.len.ensures, c.loop-i.found.ok.0))

pub returns-then-len-most-clause-goes_on : goal.returns-then-len-most-clause-goes_on
returns-then-len-most-clause-goes_on g c = λ e. absurd (cc e)

-- The way ends here.
pub returns-then-not-is_ahead-clause-ended : goal.returns-then-not-is_ahead-clause-ended
returns-then-not-is_ahead-clause-ended g c = λ _ rest stays.
    let b = (goal.at.returns-then-not-is_ahead-clause-ended g c).After-is_ahead in
    let zs = items_ahead (g.L.Look.words c.args.look.now) c.args.leaf in
    is_past c.args.test c.args.way c.args.found.now.items c.loop-i.found.items zs c.loop-i.i c.loop-i.invariant.parts c.args.most c.loop-i.invariant.few rest none
    (omega (arith, c.loop-i-test.true, c.count-ahead.ensures.count)) (sym (reported g b) ∙ c.if-not-is_ahead.true) stays

pub returns-then-not-is_ahead-clause-goes_on : goal.returns-then-not-is_ahead-clause-goes_on
returns-then-not-is_ahead-clause-goes_on g c = λ e. absurd (cc e)

-- All items have been tested.
pub returns-clause-ended : goal.returns-clause-ended
returns-clause-ended g c = λ e. absurd (cc e)

pub returns-clause-goes_on : goal.returns-clause-goes_on
returns-clause-goes_on g c = λ _.
    let zs = items_ahead (g.L.Look.words c.args.look.now) c.args.leaf in
    all_tested c.args.test c.args.way c.args.found.now.items c.loop-i.found.items zs c.loop-i.i c.loop-i.invariant.parts
    (omega (arith, c.loop-i-test.false, c.count-ahead.ensures.count))
