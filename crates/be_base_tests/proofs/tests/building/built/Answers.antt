use Rattle.std.proofs.Common.{◌<◌, ap, sym, subst, ◌∙◌, refl, arith}
use Rattle.std.specs.Int.{to_be_bytes, w64}
use Rattle.be_tree.specs.Building.{pairs_given}
use Rattle.be_tree.proofs.Builds.Ends.{below_end, rising_end}
use Rattle.be_tree_reading.specs.Key.{key_cmp, AllBelow}
use Rattle.be_tree_reading.specs.Pair.{Pair}
use Rattle.be_base_tests.proofs.Numbers.{number_below}
use Rattle.be_base_tests.proofs.tests.building.built.Goals as goal

pub loop-i-init : goal.loop-i-init
loop-i-init g c = record {
  builds = c.new-builder.ensures.builds (g.R.Look.page_state c.args.room.now) (g.R.Look.words c.args.room.now);
  below = λ n le fits. subst (AllBelow (to_be_bytes w64 n)) (sym (c.new-builder.ensures.empty (g.R.Look.words c.args.room.now))) tt;
  kept = refl;
}

pub push-requires-clause-rising : goal.push-requires-clause-rising
push-requires-clause-rising g c =
    let pairs = pairs_given (g.R.Look.words c.loop-i.room) c.loop-i.builder in
    let pair : Pair = record { key = c.to_be_bytes.result; payload = c.to_le_bytes.result } in
    rising_end pairs pair c.loop-i.invariant.builds.begun.rising
    (subst (λ k. AllBelow k pairs) (sym c.to_be_bytes.ensures) (c.loop-i.invariant.below c.loop-i.i (omega arith) (omega (arith, c.ranges.count.fits, c.loop-i-test.true))))

pub loop-i-preserved : goal.loop-i-preserved
loop-i-preserved g c =
    let pairs = pairs_given (g.R.Look.words c.loop-i.room) c.loop-i.builder in
    let pair : Pair = record { key = c.to_be_bytes.result; payload = c.to_le_bytes.result } in
    let i = c.loop-i.i in
    record {
      builds = c.in_ok-push.ensures.builds;
      below = λ n le fits.
          let less : i < n = omega (arith, le) in
          subst (AllBelow (to_be_bytes w64 n)) (sym c.in_ok-push.ensures.gains.has_pairs)
          (below_end (to_be_bytes w64 n) pairs pair (c.loop-i.invariant.below n (omega (arith, less)) fits)
          (ap (λ k. key_cmp k (to_be_bytes w64 n)) c.to_be_bytes.ensures ∙ number_below i n less fits));
      kept = c.in_ok-push.ensures.gains.swaps.kept ∙ c.loop-i.invariant.kept;
    }
