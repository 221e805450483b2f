use Rattle.std.proofs.Common.{◌≡◌, ◌≤◌, ◌<◌, ◌^◌, ◌+◌, IsOk, length, take, subst, sym, ◌∙◌, arith}
use Rattle.std.proofs.lemmas.List.{length-take-le}
use Rattle.be_volume.specs.Volume.{steps}
use Rattle.be_volume.proofs.StepLemmas.{take_ok}
use Rattle.be_volume.proofs.FactLemmas.{next_turn, bound_turn, count_turn, count_turn_fits}
use Rattle.be_volume.proofs.ahead.attribute_count.Goals as goal

pub sets_again-has-requires : goal.sets_again-has-requires
sets_again-has-requires g c = λ κs lives.
    let all : g.volume.next + length c.args.before.now < 2 ^ 64 = c.requires.1.1.1 in
    let at : c.loop-i.i < length c.args.before.now = c.loop-i-test.true in
    let within : c.loop-i.i ≤ length c.args.before.now = omega arith in
    let front : length (take c.loop-i.i c.args.before.now) ≡ c.loop-i.i = length-take-le c.loop-i.i c.args.before.now within in
    let fits : g.volume.next + length (take c.loop-i.i c.args.before.now) < 2 ^ 64 = omega arith in
    (lives, (c.loop-i.invariant.answers, (take_ok g.volume c.args.before.now c.loop-i.i c.requires.1.1.0, fits)))

pub attribute_count-count-requires : goal.attribute_count-count-requires
attribute_count-count-requires g c = (g.volume, c.next-next.ensures.answers g.volume c.requires.1.0)

pub count_after-count-requires : goal.count_after-count-requires
count_after-count-requires g c =
    let ok : IsOk (steps g.volume c.args.before.now) = c.requires.1.1.0 in
    let there = c.sets_again-has.ensures.answer in
    count_turn_fits g.volume c.args.before.now c.loop-i.i c.index-before-i.result c.loop-i-test.true c.index-before-i.is ok
    c.args.node c.loop-i.next c.loop-i.count c.sets_again-has.result c.loop-i.invariant.next c.loop-i.invariant.count there c.loop-i.invariant.fits

pub loop-i-preserved : goal.loop-i-preserved
loop-i-preserved g c =
    let ok : IsOk (steps g.volume c.args.before.now) = c.requires.1.1.0 in
    let there = c.sets_again-has.ensures.answer in
    record {
      stays = c.sets_again-has.ensures.reads.0 ∙ c.loop-i.invariant.stays;
      answers = c.sets_again-has.ensures.reads.1;
      next = c.next_after-next.ensures ∙ next_turn g.volume c.args.before.now c.loop-i.i c.index-before-i.result c.loop-i-test.true c.index-before-i.is ok c.loop-i.next c.loop-i.invariant.next;
      bound = subst (λ n. n ≤ g.volume.next + (c.loop-i.i + 1)) (sym c.next_after-next.ensures) (bound_turn g.volume c.args.before.now c.loop-i.i c.index-before-i.result c.loop-i-test.true c.index-before-i.is ok c.loop-i.next c.loop-i.invariant.bound);
      count = c.count_after-count.ensures
          ∙ count_turn g.volume c.args.before.now c.loop-i.i c.index-before-i.result c.loop-i-test.true c.index-before-i.is ok
          c.args.node c.loop-i.next c.loop-i.count c.sets_again-has.result c.loop-i.invariant.next c.loop-i.invariant.count there;
      fits = c.count_after-count.type_inv;
    }
