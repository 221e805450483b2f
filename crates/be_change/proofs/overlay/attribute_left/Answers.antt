use Rattle.be_change.proofs.Left.{attribute_back, new_back, numbers_back}
use Rattle.be_change.proofs.overlay.attribute_left.Goals as goal

pub number_before-number-requires : goal.number_before-number-requires
number_before-number-requires c =
    new_back c.args.ops.now c.loop-i.i c.args.next c.loop-i.number c.index-ops-i.result c.loop-i-test.true c.loop-i.auto.i c.index-ops-i.is c.requires.made c.loop-i.invariant.numbers

pub returns-in-Some : goal.returns-in-Some
returns-in-Some c = λ base first ok.
    attribute_back base c.args.ops.now c.loop-i.i c.args.next c.number_before-number.result c.index-ops-i.result c.args.node c.args.name.now c.left_by.result _ c.left_by.ensures c.in-Some.is
    c.loop-i-test.true c.loop-i.auto.i c.index-ops-i.is ok first
    (numbers_back c.args.ops.now c.loop-i.i c.args.next c.loop-i.number c.number_before-number.result c.index-ops-i.result c.loop-i-test.true c.loop-i.auto.i c.index-ops-i.is c.number_before-number.ensures c.loop-i.invariant.numbers)
    (c.loop-i.invariant.same base first ok)

pub loop-i-preserved : goal.loop-i-preserved
loop-i-preserved c =
    let numbers = numbers_back c.args.ops.now c.loop-i.i c.args.next c.loop-i.number c.number_before-number.result c.index-ops-i.result c.loop-i-test.true c.loop-i.auto.i c.index-ops-i.is c.number_before-number.ensures c.loop-i.invariant.numbers in
    record {
      numbers = numbers;
      same = λ base first ok.
          attribute_back base c.args.ops.now c.loop-i.i c.args.next c.number_before-number.result c.index-ops-i.result c.args.node c.args.name.now c.left_by.result _ c.left_by.ensures c.in_default.is
          c.loop-i-test.true c.loop-i.auto.i c.index-ops-i.is ok first numbers (c.loop-i.invariant.same base first ok);
    }
