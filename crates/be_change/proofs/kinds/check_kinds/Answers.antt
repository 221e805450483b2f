use Rattle.std.proofs.Common.{None, Some, refl, length, take}
use Rattle.std.proofs.lemmas.Option.{slice_get_read}
use Rattle.be_store.specs.Passes.{volume_pinned}
use Rattle.be_change.proofs.Comparing.{all_compared, compared_before, none_compared, one_compared}
use Rattle.be_change.proofs.Written.{read_on, read_pin}
use Rattle.be_change.proofs.kinds.check_kinds.Goals as goal

pub loop-i-init : goal.loop-i-init
loop-i-init c = record {
  pass = c.requires.pass;
  read = refl;
  pinned = c.requires.pinned;
  right = none_compared (volume_pinned c.args.pass.now.knows) c.args.ops.now;
}

pub loop-i-preserved : goal.loop-i-preserved
loop-i-preserved c =
    let was = c.loop-i.invariant in
    let next = c.other_kind.ensures in
    record {
      pass = next.pass.0;
      read = read_on c.args.pass.now.knows c.loop-i.pass.knows c.other_kind.new.pass.knows was.read next.pass.1;
      pinned = (was.pinned.0, read_pin c.loop-i.pass.knows c.other_kind.new.pass.knows was.pinned.0 next.pass.1 was.pinned.1);
      right = one_compared (volume_pinned c.args.pass.now.knows) c.args.ops.now c.loop-i.i c.index-ops-i.result c.loop-i-test.true c.index-ops-i.is was.right
          (compared_before c.args.pass.now.knows c.loop-i.pass.knows (take c.loop-i.i c.args.ops.now) c.index-ops-i.result c.other_kind.result None was.read c.in_default.is next.compared);
    }

pub returns-in-Some-clause-pass : goal.returns-in-Some-clause-pass
returns-in-Some-clause-pass c =
    let next = c.other_kind.ensures in
    (next.pass.0, read_on c.args.pass.now.knows c.loop-i.pass.knows c.other_kind.new.pass.knows c.loop-i.invariant.read next.pass.1)

pub returns-in-Some-clause-wrong : goal.returns-in-Some-clause-wrong
returns-in-Some-clause-wrong c = (
  c.loop-i.invariant.right,
  c.index-ops-i.result,
  slice_get_read c.args.ops.now (length c.args.ops.now) c.loop-i.i c.index-ops-i.result refl c.loop-i-test.true c.index-ops-i.is,
  compared_before c.args.pass.now.knows c.loop-i.pass.knows (take c.loop-i.i c.args.ops.now) c.index-ops-i.result c.other_kind.result (Some c.in-Some.index)
      c.loop-i.invariant.read c.in-Some.is c.other_kind.ensures.compared,
)

pub returns-clause-right : goal.returns-clause-right
returns-clause-right c = all_compared (volume_pinned c.args.pass.now.knows) c.args.ops.now c.loop-i.i c.loop-i-test.false c.loop-i.invariant.right
