use Rattle.std.proofs.Common.{◌≡◌, Ok, map, drop}
use Rattle.be_query.specs.Rpn.{rpn, rpn_from, stack_of, item_of}
use Rattle.be_query.proofs.Worked.{StackKept}
use Rattle.be_query.proofs.rpn.from_rpn.Given as goal

abbrev pub invariant-items : goal.invariant-items
invariant-items l = record {
  worked : rpn_from l.at (Ok (stack_of l.stack)) (map item_of (drop l.at l.items)) ≡ rpn (map item_of l.items);
  kept : StackKept (stack_of l.stack).1;
}
