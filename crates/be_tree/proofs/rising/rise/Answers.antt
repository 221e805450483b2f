use Rattle.std.proofs.Common.{◌≡◌, ◌∙◌, ℕ, suc, ◌+◌, ◌-◌, ◌<◌, ◌≤◌, [], ◌∷◌, ◌++◌, List, length, get_or, take, ap, sym, subst, arith, rules, refl}
use Rattle.std.proofs.Math.Seq.{take-length, take-suc}
use Rattle.be_tree.specs.declared.path.Step.{Step}
use Rattle.be_tree.specs.declared.rising.Changed.{Changed}
use Rattle.be_tree_reading.specs.Page.{level_of}
use Rattle.be_tree.specs.Path.{IsChanged, whole}
use Rattle.be_tree_reading.specs.Tree.{BecomesTree, pages, pairs_at}
use Rattle.be_tree_reading.proofs.Frame.{start_trans, swaps_start, unchanged_start}
use Rattle.be_tree.proofs.Raises.{can_raise, changed_here, changed_root, raised, raised_whole}
use Rattle.be_tree_reading.proofs.Shape.Levels.{kept_not_free}
use Rattle.be_tree.proofs.Shape.Parts.{on_err}
use Rattle.be_tree.proofs.Sizes.InHand.{fewer_within, takes_fewer_then, takes_same, takes_then, takes_within}
use Rattle.be_tree.proofs.Sizes.Refusals.{takes_on}
use Rattle.be_tree.proofs.rising.rise.Goals as goal

-- the lowest step left
last_step : (xs : List Step) (i : ℕ) → i < length xs → take (length xs - i) xs ≡ take (length xs - 1 - i) xs ++ get_or xs (length xs - 1 - i) (record { page = 0; at = 0 }) ∷ []
last_step xs i lt =
    let e : length xs - i ≡ suc (length xs - 1 - i) = omega (arith, lt) in
    ap (λ n. take n xs) e ∙ take-suc xs (length xs - 1 - i) (record { page = 0; at = 0 }) (omega (arith, lt))

fewer : (xs : List Step) (i : ℕ) → length xs - (i + 1) ≡ length xs - 1 - i
fewer xs i = omega arith

pub loop-i-init : goal.loop-i-init
loop-i-init g c =
    let above = c.args.above.now in
    let room = c.args.room.now in
    let e : length above - 0 ≡ length above = omega arith in
    let is : take (length above - 0) above ≡ above = ap (λ n. take n above) e ∙ take-length above in
    record {
      kept = refl;
      starts = unchanged_start g.R.Look.kept g.R.Look.page_state g.R.Look.words room room (record { kept = refl; page_state = refl; words = refl });
      within = omega arith;
      takes = takes_same (g.R.Look.page_state room) (g.R.Look.page_state room) refl;
      changed = λ start h. subst (λ xs. IsChanged g.R.Look.kept g.R.Look.page_state g.R.Look.words c.args.root xs c.args.changed (level_of (g.R.Look.words start c.args.changed.was)) start room) (sym is) h;
      same = λ start h. ap (λ xs. whole (g.R.Look.words start) xs (pairs_at (level_of (g.R.Look.words start c.args.changed.was)) (g.R.Look.words room) c.args.changed.page)) is;
    }

pub overflow_cast-below : goal.overflow_cast-below
overflow_cast-below g c =
    let h = c.loop-i.invariant.changed c.requires.changed.0 c.requires.changed.1 in
    omega (arith, g.met.R.Look.pages_small c.loop-i.room c.loop-i.below.page (kept_not_free (g.R.Look.page_state c.loop-i.room c.loop-i.below.page) h.node.tree.page_in_use))

pub overflow_add-result : goal.overflow_add-result
overflow_add-result g c =
    let h = c.loop-i.invariant.changed c.requires.changed.0 c.requires.changed.1 in
    omega (arith, g.met.R.Look.pages_small c.loop-i.room c.loop-i.below.page (kept_not_free (g.R.Look.page_state c.loop-i.room c.loop-i.below.page) h.node.tree.page_in_use))

pub returns-then-below-2-clause-ok : goal.returns-then-below-2-clause-ok
returns-then-below-2-clause-ok g c = λ start h.
    subst (λ ps. BecomesTree g.R.Look.kept g.R.Look.page_state g.R.Look.words (pages (g.R.Look.words start) c.args.root) ps c.args.root start c.loop-i.room) (c.loop-i.invariant.same start h)
    (changed_here g.R.Look.kept g.R.Look.page_state g.R.Look.words c.args.root (take (length c.args.above.now - c.loop-i.i) c.args.above.now) c.loop-i.below (level_of (g.R.Look.words start c.loop-i.below.was)) start c.loop-i.room
    (c.loop-i.invariant.changed start h) c.if-below.true c.if-below-2.true)

pub returns-clause-ok : goal.returns-clause-ok
returns-clause-ok g c = λ start h.
    let above = c.args.above.now in
    let none : length above - c.loop-i.i ≡ 0 = omega (arith, c.loop-i-test.false) in
    subst (λ ps. BecomesTree g.R.Look.kept g.R.Look.page_state g.R.Look.words (pages (g.R.Look.words start) c.args.root) ps (c.loop-i.below.page + 1) start c.loop-i.room) (c.loop-i.invariant.same start h)
    (changed_root g.R.Look.kept g.R.Look.page_state g.R.Look.words c.args.root (c.loop-i.below.page + 1) (take (length above - c.loop-i.i) above) c.loop-i.below (level_of (g.R.Look.words start c.loop-i.below.was)) start c.loop-i.room
    (ap (λ n. take n above) none) (omega arith) (c.loop-i.invariant.changed start h))

pub splice-requires-clause-cut : goal.splice-requires-clause-cut
splice-requires-clause-cut g c =
    let above = c.args.above.now in
    let m = length above - 1 - c.loop-i.i in
    let start = c.requires.changed.0 in
    let below = c.loop-i.below in
    let level = level_of (g.R.Look.words start below.was) in
    let h = c.loop-i.invariant.changed start c.requires.changed.1 in
    let here = subst (λ xs. IsChanged g.R.Look.kept g.R.Look.page_state g.R.Look.words c.args.root xs below level start c.loop-i.room) (last_step above c.loop-i.i c.loop-i-test.true) h in
    can_raise g.R.Look.kept g.R.Look.page_state g.R.Look.words c.args.root (take m above) (get_or above m (record { page = 0; at = 0 })) below level c.new-none.result start c.loop-i.room here
    (g.met.R.Look.pages_small c.loop-i.room below.page (kept_not_free (g.R.Look.page_state c.loop-i.room below.page) h.node.tree.page_in_use)) (omega (arith, ap length c.new-none.ensures.key))

pub loop-i-preserved : goal.loop-i-preserved
loop-i-preserved g c =
    let above = c.args.above.now in
    let i = c.loop-i.i in
    let m = length above - 1 - i in
    let step = get_or above m (record { page = 0; at = 0 }) in
    let below = c.loop-i.below in
    let room = c.loop-i.room in
    let new = c.splice.new.room in
    let to = c.in_ok-page.page in
    let spliced = c.in_ok-page.ensures.ok in
    let after : Changed = record { was = step.page; page = to; same_minimum = c.keeps_minimum.result } in
    let small = λ (start : g.row.R.Denot) (h : IsChanged g.R.Look.kept g.R.Look.page_state g.R.Look.words c.args.root (take (length above - i) above) below (level_of (g.R.Look.words start below.was)) start room).
    g.met.R.Look.pages_small room below.page (kept_not_free (g.R.Look.page_state room below.page) h.node.tree.page_in_use) in
    let here = λ (start : g.row.R.Denot) (h : IsChanged g.R.Look.kept g.R.Look.page_state g.R.Look.words c.args.root (take (length above - i) above) below (level_of (g.R.Look.words start below.was)) start room).
    subst (λ xs. IsChanged g.R.Look.kept g.R.Look.page_state g.R.Look.words c.args.root xs below (level_of (g.R.Look.words start below.was)) start room) (last_step above i c.loop-i-test.true) h in
    let fits : length c.new-none.result.key ≤ 264 = omega (arith, ap length c.new-none.ensures.key) in
    record {
      kept = spliced.swaps.kept ∙ c.loop-i.invariant.kept;
      starts = start_trans g.R.Look.kept g.R.Look.page_state g.R.Look.words c.args.room.now room new c.loop-i.invariant.starts (swaps_start g.R.Look.kept g.R.Look.page_state g.R.Look.words (step.page ∷ []) (to ∷ []) room new spliced.swaps);
      within = omega (arith, c.loop-i-test.true);
      takes = takes_then i 1 (g.R.Look.page_state c.args.room.now) (g.R.Look.page_state room) (g.R.Look.page_state new) c.loop-i.invariant.takes c.in_ok-page.ensures.refused.2.0;
      changed = λ start was.
          let h = c.loop-i.invariant.changed start was in
          let level = level_of (g.R.Look.words start below.was) in
          let up = raised g.R.Look.kept g.R.Look.page_state g.R.Look.words c.args.root (take m above) step below level c.new-none.result start room (here start h) (small start h) fits to new spliced c.keeps_minimum.result c.keeps_minimum.ensures in
          subst (λ n. IsChanged g.R.Look.kept g.R.Look.page_state g.R.Look.words c.args.root (take n above) after (level_of (g.R.Look.words start step.page)) start new) (sym (fewer above i))
          (subst (λ n. IsChanged g.R.Look.kept g.R.Look.page_state g.R.Look.words c.args.root (take m above) after n start new) (sym up.at_level) up);
      same = λ start was.
          let h = c.loop-i.invariant.changed start was in
          let level = level_of (g.R.Look.words start below.was) in
          let up = raised g.R.Look.kept g.R.Look.page_state g.R.Look.words c.args.root (take m above) step below level c.new-none.result start room (here start h) (small start h) fits to new spliced c.keeps_minimum.result c.keeps_minimum.ensures in
          ap (λ n. whole (g.R.Look.words start) (take n above) (pairs_at (level_of (g.R.Look.words start step.page)) (g.R.Look.words new) to)) (fewer above i)
          ∙ ap (λ n. whole (g.R.Look.words start) (take m above) (pairs_at n (g.R.Look.words new) to)) up.at_level
          ∙ raised_whole g.R.Look.kept g.R.Look.page_state g.R.Look.words c.args.root (take m above) step below level c.new-none.result start room (here start h) (small start h) fits to new spliced
          ∙ ap (λ xs. whole (g.R.Look.words start) xs (pairs_at level (g.R.Look.words room) below.page)) (sym (last_step above i c.loop-i-test.true))
          ∙ c.loop-i.invariant.same start was;
    }

pub returns-in_err-page-clause-refused : goal.returns-in_err-page-clause-refused
returns-in_err-page-clause-refused g c = (
  on_err _ (start_trans g.R.Look.kept g.R.Look.page_state g.R.Look.words c.args.room.now c.loop-i.room c.splice.new.room c.loop-i.invariant.starts c.in_err-page.ensures.refused.0),
  search rules,
  takes_on (length c.args.above.now) _ (g.R.Look.page_state c.args.room.now) (g.R.Look.page_state c.splice.new.room) (fewer_within (c.loop-i.i + 1) (length c.args.above.now) (g.R.Look.page_state c.args.room.now) (g.R.Look.page_state c.splice.new.room) (omega (arith, c.loop-i-test.true))
      (takes_fewer_then c.loop-i.i 1 (g.R.Look.page_state c.args.room.now) (g.R.Look.page_state c.loop-i.room) (g.R.Look.page_state c.splice.new.room) c.loop-i.invariant.takes c.in_err-page.ensures.refused.2.1)),
)

pub returns-then-below-2-clause-refused : goal.returns-then-below-2-clause-refused
returns-then-below-2-clause-refused g c =
    (tt, tt, (takes_within c.loop-i.i (length c.args.above.now) (g.R.Look.page_state c.args.room.now) (g.R.Look.page_state c.loop-i.room) c.loop-i.invariant.within c.loop-i.invariant.takes, tt))

pub returns-clause-refused : goal.returns-clause-refused
returns-clause-refused g c =
    (tt, tt, (takes_within c.loop-i.i (length c.args.above.now) (g.R.Look.page_state c.args.room.now) (g.R.Look.page_state c.loop-i.room) c.loop-i.invariant.within c.loop-i.invariant.takes, tt))
