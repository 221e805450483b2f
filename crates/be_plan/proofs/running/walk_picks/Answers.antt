use Rattle.std.proofs.Common.{◌≡◌, ◌<◌, ◌-◌, ℕ, true, length, slice_index, refl, sym, ap, subst, ◌∙◌, arith}
use borrow.Author.Count.{below_more}
use Rattle.be_query.specs.View.{formula}
use Rattle.be_volume.specs.Query.{has_index}
use Rattle.be_plan.specs.Cover.{rests_on}
use Rattle.be_plan.specs.Spine.{LiesIn}
use Rattle.be_plan.specs.Walk.{HasReached}
use Rattle.be_plan.proofs.Answering.{all_reached, at_place, pick_place, covers_parts}
use Rattle.be_plan.proofs.Choice.{pick_below}
use Rattle.be_plan.proofs.Collecting.{collects_none, collects_on}
use Rattle.be_plan.proofs.Spines.{rests_in}
use Rattle.be_plan.proofs.running.walk_picks.Goals as goal

pub loop-i-init : goal.loop-i-init
loop-i-init g c = record {
  stays = refl;
  answers = c.requires.1.1.0;
  collects = collects_none g.volume (formula c.args.tree.now) c.args.found.now.items;
  front = c.whole_front-front.ensures;
  reached = λ k lt. absurd (omega (arith, lt));
}

pub front_for-front-requires-clause-within : goal.front_for-front-requires-clause-within
front_for-front-requires-clause-within g c =
    let f = formula c.args.tree.now in
    let picks = c.as_slice-picks.result.now in
    let parts = covers_parts g.volume c.args.cover.now.picks picks f f (sym c.as_slice-picks.ensures) refl c.requires.1.1.1 in
    let R : ℕ → Type 0 = λ p. rests_on (has_index g.volume) f p ≡ true in
    let place : length picks - 1 - c.loop-i.i < length picks = omega (arith, c.loop-i-test.true) in
    let rests : rests_on (has_index g.volume) f c.from_last-pick.result ≡ true =
    subst R (sym c.from_last-pick.ensures) (at_place (rests_on (has_index g.volume) f) picks (length picks - 1 - c.loop-i.i) parts.0 place) in
    pick_below (has_index g.volume) f c.from_last-pick.result rests

pub walk_pick-requires : goal.walk_pick-requires
walk_pick-requires g c κs within =
    let f = formula c.args.tree.now in
    let picks = c.as_slice-picks.result.now in
    let part = formula c.front_for-front.result.side.now in
    let from = c.front_for-front.result.from in
    let pick = c.from_last-pick.result in
    let inv = c.loop-i.invariant in
    let parts = covers_parts g.volume c.args.cover.now.picks picks f f (sym c.as_slice-picks.ensures) refl c.requires.1.1.1 in
    let R : ℕ → Type 0 = λ p. rests_on (has_index g.volume) f p ≡ true in
    let place : length picks - 1 - c.loop-i.i < length picks = omega (arith, c.loop-i-test.true) in
    let rests : rests_on (has_index g.volume) f pick ≡ true =
    subst R (sym c.from_last-pick.ensures) (at_place (rests_on (has_index g.volume) f) picks (length picks - 1 - c.loop-i.i) parts.0 place) in
    let lies : LiesIn f pick from part = c.front_for-front.ensures.lies in (
      within,
      (
        inv.answers,
        record {
          few = omega (arith, c.front_for-front.ensures.side, c.front_for-front.ensures.front.few);
          rests = rests_in (has_index g.volume) f part pick from lies rests;
          lies = lies;
        },
      ),
    )

pub loop-i-preserved : goal.loop-i-preserved
loop-i-preserved g c =
    let f = formula c.args.tree.now in
    let picks = c.as_slice-picks.result.now in
    let found = c.walk_pick.new.found.items in
    let inv = c.loop-i.invariant in
    let P : ℕ → Type 0 = λ p. HasReached g.volume f p found in
    let Q : ℕ → Type 0 = λ k. HasReached g.volume f (slice_index picks (length picks - 1 - k)) found in
    record {
      stays = c.walk_pick.ensures.stays ∙ inv.stays;
      answers = c.walk_pick.ensures.answers;
      collects = collects_on g.volume f c.args.found.now.items c.loop-i.found.items found inv.collects c.walk_pick.ensures.collects;
      front = c.front_for-front.ensures.front;
      reached = below_more Q c.loop-i.i
          (λ k lt node r holds. c.walk_pick.ensures.collects.keeps node (inv.reached k lt node r holds))
          (subst P c.from_last-pick.ensures c.in_ok-walk_pick.ensures.has);
    }

pub returns-in_err-walk_pick-clause-collects : goal.returns-in_err-walk_pick-clause-collects
returns-in_err-walk_pick-clause-collects g c = collects_on g.volume (formula c.args.tree.now) c.args.found.now.items c.loop-i.found.items c.walk_pick.new.found.items c.loop-i.invariant.collects c.walk_pick.ensures.collects

pub returns-clause-has : goal.returns-clause-has
returns-clause-has g c =
    let f = formula c.args.tree.now in
    let picks = c.as_slice-picks.result.now in
    let found = c.loop-i.found.items in
    let parts = covers_parts g.volume c.args.cover.now.picks picks f f (sym c.as_slice-picks.ensures) refl c.requires.1.1.1 in
    all_reached g.volume f picks found parts.1
    (λ p is node r holds.
    let at : (k : ℕ) × k < length picks × slice_index picks k ≡ p = pick_place picks p is in
    let k : ℕ = length picks - 1 - at.0 in
    let back : length picks - 1 - k ≡ at.0 = omega (arith, at.1) in
    let lt : k < c.loop-i.i = omega (arith, at.1) in
    let P : ℕ → Type 0 = λ q. HasReached g.volume f q found in
    subst P (ap (slice_index picks) back ∙ at.2) (λ m s h. c.loop-i.invariant.reached k lt m s h) node r holds)
