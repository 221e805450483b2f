use Rattle.std.proofs.Common.{◌≡◌, ℕ, ◌+◌, ◌<◌, ◌∙◌, ap, sym, subst, true, false, refl, arith, get_or}
use Rattle.std.specs.declared.cmp.Ordering.{Ordering}
use Rattle.std.specs.declared.cmp.Ordering.TheVariants.{Less, Equal, Greater}
use Rattle.std.specs.Ordering.{is_eq, is_gt}
use Rattle.be_tree_reading.specs.Pair.{Pair}
use Rattle.be_tree_reading.specs.Key.{key_cmp}
use Rattle.be_tree_reading.specs.Page.{IsItem, item_at, items_of}
use Rattle.be_tree_reading.proofs.Items.{item_get, items_count}
use Rattle.be_tree_reading.proofs.Frame.{unchanged_trans}
use Rattle.be_tree_reading.proofs.lookup.search.Given.{Over}
use Rattle.be_tree_reading.proofs.lookup.search.Goals as goal
use Rattle.be_tree_reading.proofs.lookup.search.Goals.{After-order_at-order}

pub loop-at-init : goal.loop-at-init
loop-at-init g c = record {
  number = 0;
  is_place = refl;
  in_range = omega arith;
  below = λ j d e. absurd (omega (arith, e));
  unchanged = c.end_of-end.ensures.unchanged;
}

-- the place is an item's
pub order_at-order-requires-clause-in_page : goal.order_at-order-requires-clause-in_page
order_at-order-requires-clause-in_page g c = omega (arith, c.loop-at.invariant.is_place, c.loop-at-test.true, c.end_of-end.ensures.end, c.requires.page.few)

pub order_at-order-requires-clause-item : goal.order_at-order-requires-clause-item
order_at-order-requires-clause-item g c =
    let i = c.loop-at.invariant in
    subst (λ (w : ℕ → ℕ → ℕ). IsItem (w c.args.page) c.loop-at.at) (sym i.unchanged.words)
    (subst (λ (p : ℕ). IsItem (g.L.Look.words c.args.look.now c.args.page) p) (sym i.is_place) (c.requires.page.each i.number (omega (arith, i.is_place, c.loop-at-test.true, c.end_of-end.ensures.end))))

here : (g : Over) (c : After-order_at-order g) → c.loop-at.invariant.number < g.L.Look.words c.args.look.now c.args.page 1
here g c = omega (arith, c.loop-at.invariant.is_place, c.loop-at-test.true, c.end_of-end.ensures.end)

-- how the current item compares
asked : (g : Over) (c : After-order_at-order g) → key_cmp (item_at (g.L.Look.words c.args.look.now c.args.page) c.loop-at.at).key c.args.key.now ≡ c.order_at-order.result
asked g c = sym (c.order_at-order.ensures.order ∙ ap (λ (w : ℕ → ℕ → ℕ). key_cmp (item_at (w c.args.page) c.loop-at.at).key c.args.key.now) c.loop-at.invariant.unchanged.words)

asked_item : (g : Over) (c : After-order_at-order g) (d : Pair) → key_cmp (get_or (items_of (g.L.Look.words c.args.look.now c.args.page)) c.loop-at.invariant.number d).key c.args.key.now ≡ c.order_at-order.result
asked_item g c d =
    let words = g.L.Look.words c.args.look.now c.args.page in
    ap (λ (p : Pair). key_cmp p.key c.args.key.now) (item_get words c.loop-at.invariant.number d (here g c))
    ∙ ap (λ (p : ℕ). key_cmp (item_at words p).key c.args.key.now) (sym c.loop-at.invariant.is_place)
    ∙ asked g c

never : {A : Type 0} → false ≡ true → A
never e = cc

less : (o : Ordering) → is_eq o ≡ false → is_gt o ≡ false → o ≡ Less
less Less e h = refl
less Equal e h = never (sym e)
less Greater e h = never (sym h)

equal : (o : Ordering) → is_eq o ≡ true → o ≡ Equal
equal Less e = never e
equal Equal e = refl
equal Greater e = never e

greater : (o : Ordering) → is_gt o ≡ true → o ≡ Greater
greater Less e = never e
greater Equal e = never e
greater Greater e = refl

pub loop-at-preserved : goal.loop-at-preserved
loop-at-preserved g c =
    let at = (goal.at.loop-at-preserved g c).After-order_at-order in
    let i = c.loop-at.invariant in
    let items = items_of (g.L.Look.words c.args.look.now c.args.page) in
    record {
      number = i.number + 1;
      is_place = omega (arith, i.is_place);
      in_range = omega (arith, here g at);
      below = λ j d e.
          let same : j ≡ i.number = omega (arith, e) in
          ap (λ (n : ℕ). key_cmp (get_or items n d).key c.args.key.now) same ∙ asked_item g at d
          ∙ less c.order_at-order.result (sym c.is_eq.ensures ∙ c.if-is_eq.false) (sym c.is_gt.ensures ∙ c.if-is_gt.false);
      unchanged = unchanged_trans g.L.Look.kept g.L.Look.page_state g.L.Look.words c.args.look.now c.loop-at.look c.order_at-order.new.look i.unchanged c.order_at-order.ensures.unchanged;
    }

pub returns-then-is_eq-clause-found : goal.returns-then-is_eq-clause-found
returns-then-is_eq-clause-found g c =
    let at = (goal.at.returns-then-is_eq-clause-found g c).After-order_at-order in
    record {
      number = c.loop-at.invariant.number;
      in_range = here g at;
      is_place = c.loop-at.invariant.is_place;
      same = asked g at ∙ equal c.order_at-order.result (sym c.is_eq.ensures ∙ c.if-is_eq.true);
    }

pub returns-then-is_gt-clause-absent : goal.returns-then-is_gt-clause-absent
returns-then-is_gt-clause-absent g c =
    let at = (goal.at.returns-then-is_gt-clause-absent g c).After-order_at-order in
    let i = c.loop-at.invariant in
    record {
      number = i.number;
      is_gap = record {
        in_range = omega (arith, here g at, items_count (g.L.Look.words c.args.look.now c.args.page));
        below = i.below;
        above = λ d _. asked_item g at d ∙ greater c.order_at-order.result (sym c.is_gt.ensures ∙ c.if-is_gt.true);
      };
      is_place = i.is_place;
    }

pub returns-clause-absent : goal.returns-clause-absent
returns-clause-absent g c =
    let i = c.loop-at.invariant in
    let len = items_count (g.L.Look.words c.args.look.now c.args.page) in
    record {
      number = i.number;
      is_gap = record {
        in_range = omega (arith, len, i.in_range);
        below = i.below;
        above = λ d lt. absurd (omega (arith, lt, len, i.is_place, c.loop-at-test.false, c.end_of-end.ensures.end));
      };
      is_place = i.is_place;
    }
