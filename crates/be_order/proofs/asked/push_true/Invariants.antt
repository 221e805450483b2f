use Rattle.std.proofs.Common.{◌≡◌, ◌++◌, filter, take}
use Rattle.be_query.specs.View.{formula}
use Rattle.be_volume.specs.Query.{sat}
use Rattle.be_order.proofs.asked.push_true.Given as goal

abbrev pub ghost-push_if_true : goal.ghost-push_if_true
ghost-push_if_true g a = g.volume

abbrev pub invariant-loop-node : goal.invariant-loop-node
invariant-loop-node g l = record {
  found : l.found.items ≡ l.initial.found.items ++ filter (sat g.volume (formula l.left.tree.now)) (take l.node-index l.nodes);
  stays : g.S.Source.kept l.source ≡ g.S.Source.kept l.initial.source;
  answers : g.S.Source.answers_for l.source g.volume;
}
