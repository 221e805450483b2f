use Rattle.std.proofs.Common.{◌≡◌, ℕ, ◌+◌, ◌*◌, ◌<◌, ◌∙◌, ap, sym, true, false, refl, arith, get_or}
use Rattle.std.specs.declared.cmp.Ordering.{Ordering}
use Rattle.std.specs.declared.cmp.Ordering.TheVariants.{Less, Equal, Greater}
use Rattle.std.specs.Ordering.{is_gt}
use Rattle.be_tree_reading.specs.Pair.{Pair}
use Rattle.be_tree_reading.specs.Key.{key_cmp}
use Rattle.be_tree_reading.specs.Page.{item_at, items_of}
use Rattle.be_tree_reading.proofs.Items.{item_get, items_count}
use Rattle.be_tree_reading.proofs.Frame.{unchanged_trans}
use Rattle.be_tree_reading.proofs.lookup.rank.Given.{Over}
use Rattle.be_tree_reading.proofs.lookup.rank.Goals as goal
use Rattle.be_tree_reading.proofs.lookup.rank.Goals.{After-is_above}

-- how the current item compares
asked : (g : Over) (c : After-is_above g) (d : Pair) → c.loop-at.at < g.L.Look.words c.args.look.now c.args.page 1
    → is_gt (key_cmp (get_or (items_of (g.L.Look.words c.args.look.now c.args.page)) c.loop-at.at d).key c.args.key.now) ≡ c.is_above.result
asked g c d lt =
    ap (λ (p : Pair). is_gt (key_cmp p.key c.args.key.now)) (item_get (g.L.Look.words c.args.look.now c.args.page) c.loop-at.at d lt)
    ∙ sym (c.is_above.ensures.above ∙ ap (λ (w : ℕ → ℕ → ℕ). is_gt (key_cmp (item_at (w c.args.page) (2 + 42 * c.loop-at.at)).key c.args.key.now)) c.loop-at.invariant.unchanged.words)

never : {A : Type 0} → false ≡ true → A
never e = cc

greater : (o : Ordering) → is_gt o ≡ true → o ≡ Greater
greater Less e = never e
greater Equal e = never e
greater Greater e = refl

not_greater : (o : Ordering) → is_gt o ≡ false → o ≡ Greater → ⊥
not_greater o e gt = never (sym e ∙ ap is_gt gt)

pub loop-at-preserved : goal.loop-at-preserved
loop-at-preserved g c = record {
  not_above = λ j d e gt.
      let here : j ≡ c.loop-at.at = omega (arith, e) in
      let words = g.L.Look.words c.args.look.now c.args.page in
      not_greater _ (asked g (goal.at.loop-at-preserved g c).After-is_above d (omega (arith, c.loop-at-test.true, c.word-count.ensures.value)) ∙ c.if-is_above.false)
      (sym (ap (λ (i : ℕ). key_cmp (get_or (items_of words) i d).key c.args.key.now) here) ∙ gt);
  unchanged = unchanged_trans g.L.Look.kept g.L.Look.page_state g.L.Look.words c.args.look.now c.loop-at.look c.is_above.new.look c.loop-at.invariant.unchanged c.is_above.ensures.unchanged;
}

pub returns-then-is_above-clause-rank : goal.returns-then-is_above-clause-rank
returns-then-is_above-clause-rank g c =
    record {
      in_range = omega (arith, c.loop-at-test.true, c.word-count.ensures.value, items_count (g.L.Look.words c.args.look.now c.args.page));
      not_above = c.loop-at.invariant.not_above;
      above = λ d _.
          greater _ (asked g (goal.at.returns-then-is_above-clause-rank g c).After-is_above d (omega (arith, c.loop-at-test.true, c.word-count.ensures.value)) ∙ c.if-is_above.true);
    }

pub returns-clause-rank : goal.returns-clause-rank
returns-clause-rank g c =
    let len = items_count (g.L.Look.words c.args.look.now c.args.page) in
    record {
      in_range = omega (arith, len, c.word-count.ensures.value);
      not_above = λ j d e. c.loop-at.invariant.not_above j d (omega (arith, e, c.loop-at-test.false, c.loop-at.auto));
      above = λ d lt. absurd (omega (arith, lt, len, c.word-count.ensures.value));
    }
