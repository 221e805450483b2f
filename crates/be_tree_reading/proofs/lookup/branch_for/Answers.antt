use Rattle.std.proofs.Common.{◌≡◌, ℕ, ◌+◌, ◌-◌, ◌<◌, ◌∙◌, ap, sym, subst, true, false, refl, arith, get_or}
use Rattle.std.specs.declared.cmp.Ordering.{Ordering}
use Rattle.std.specs.declared.cmp.Ordering.TheVariants.{Less, Equal, Greater}
use Rattle.std.specs.Ordering.{is_gt}
use Rattle.be_tree_reading.specs.Pair.{Pair}
use Rattle.be_tree_reading.specs.Key.{key_cmp}
use Rattle.be_tree_reading.specs.Page.{IsItem, item_at, items_of}
use Rattle.be_tree_reading.proofs.Items.{item_get, items_count}
use Rattle.be_tree_reading.proofs.Frame.{unchanged_trans}
use Rattle.be_tree_reading.proofs.Searching.{branch_of}
use Rattle.be_tree_reading.proofs.lookup.branch_for.Given.{Over}
use Rattle.be_tree_reading.proofs.lookup.branch_for.Goals as goal
use Rattle.be_tree_reading.proofs.lookup.branch_for.Goals.{After-is_above}

pub loop-at-init : goal.loop-at-init
loop-at-init g c = record {
  number = 1;
  is_place = refl;
  some = omega arith;
  in_range = c.requires.some;
  not_above = λ j d e some gt. absurd (omega (arith, e, some));
  unchanged = record { kept = refl; page_state = refl; words = refl };
}

-- the place is an item's
pub is_above-requires-clause-in_page : goal.is_above-requires-clause-in_page
is_above-requires-clause-in_page g c = omega (arith, c.loop-at.invariant.is_place, c.loop-at-test.true, c.requires.end, c.requires.page.few)

pub is_above-requires-clause-item : goal.is_above-requires-clause-item
is_above-requires-clause-item g c =
    let i = c.loop-at.invariant in
    subst (λ (w : ℕ → ℕ → ℕ). IsItem (w c.args.page) c.loop-at.at) (sym i.unchanged.words)
    (subst (λ (p : ℕ). IsItem (g.L.Look.words c.args.look.now c.args.page) p) (sym i.is_place) (c.requires.page.each i.number (omega (arith, i.is_place, c.loop-at-test.true, c.requires.end))))

-- how the current item compares
asked : (g : Over) (c : After-is_above g) (d : Pair) → c.loop-at.invariant.number < g.L.Look.words c.args.look.now c.args.page 1
    → is_gt (key_cmp (get_or (items_of (g.L.Look.words c.args.look.now c.args.page)) c.loop-at.invariant.number d).key c.args.key.now) ≡ c.is_above.result
asked g c d lt =
    let words = g.L.Look.words c.args.look.now c.args.page in
    ap (λ (p : Pair). is_gt (key_cmp p.key c.args.key.now)) (item_get words c.loop-at.invariant.number d lt)
    ∙ ap (λ (p : ℕ). is_gt (key_cmp (item_at words p).key c.args.key.now)) (sym c.loop-at.invariant.is_place)
    ∙ sym (c.is_above.ensures.above ∙ ap (λ (w : ℕ → ℕ → ℕ). is_gt (key_cmp (item_at (w c.args.page) c.loop-at.at).key c.args.key.now)) c.loop-at.invariant.unchanged.words)

here : (g : Over) (c : After-is_above g) → c.loop-at.invariant.number < g.L.Look.words c.args.look.now c.args.page 1
here g c = omega (arith, c.loop-at.invariant.is_place, c.loop-at-test.true, c.requires.end)

never : {A : Type 0} → false ≡ true → A
never e = cc

greater : (o : Ordering) → is_gt o ≡ true → o ≡ Greater
greater Less e = never e
greater Equal e = never e
greater Greater e = refl

not_greater : (o : Ordering) → is_gt o ≡ false → o ≡ Greater → ⊥
not_greater o e gt = never (sym e ∙ ap is_gt gt)

pub loop-at-preserved : goal.loop-at-preserved
loop-at-preserved g c =
    let at = (goal.at.loop-at-preserved g c).After-is_above in
    let i = c.loop-at.invariant in
    record {
      number = i.number + 1;
      is_place = omega (arith, i.is_place);
      some = omega arith;
      in_range = omega (arith, here g at);
      not_above = λ j d e _ gt.
          let same : j ≡ i.number = omega (arith, e) in
          let words = g.L.Look.words c.args.look.now c.args.page in
          not_greater _ (asked g at d (here g at) ∙ c.if-is_above.false)
          (sym (ap (λ (n : ℕ). key_cmp (get_or (items_of words) n d).key c.args.key.now) same) ∙ gt);
      unchanged = unchanged_trans g.L.Look.kept g.L.Look.page_state g.L.Look.words c.args.look.now c.loop-at.look c.is_above.new.look i.unchanged c.is_above.ensures.unchanged;
    }

pub returns-then-is_above-clause-branch : goal.returns-then-is_above-clause-branch
returns-then-is_above-clause-branch g c =
    let at = (goal.at.returns-then-is_above-clause-branch g c).After-is_above in
    let i = c.loop-at.invariant in
    let items = items_of (g.L.Look.words c.args.look.now c.args.page) in
    record {
      number = i.number - 1;
      is_branch = branch_of c.args.key.now items i.number (i.number - 1) refl i.some
          (omega (arith, here g at, items_count (g.L.Look.words c.args.look.now c.args.page)))
          i.not_above
          (λ d _. greater _ (asked g at d (here g at) ∙ c.if-is_above.true));
      is_place = omega (arith, i.is_place, i.some);
    }

pub returns-clause-branch : goal.returns-clause-branch
returns-clause-branch g c =
    let i = c.loop-at.invariant in
    let words = g.L.Look.words c.args.look.now c.args.page in
    let len = items_count words in
    record {
      number = i.number - 1;
      is_branch = branch_of c.args.key.now (items_of words) i.number (i.number - 1) refl i.some
          (omega (arith, len, i.in_range))
          i.not_above
          (λ d lt. absurd (omega (arith, lt, len, i.is_place, c.loop-at-test.false, c.requires.end)));
      is_place = omega (arith, i.is_place, i.some);
    }
