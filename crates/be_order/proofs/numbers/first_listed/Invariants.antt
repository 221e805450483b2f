use Rattle.std.proofs.Common.{◌≡◌, ◌≤◌, ◌++◌, drop, filter, length}
use Rattle.be_query.specs.View.{formula}
use Rattle.be_volume.specs.Query.{sat}
use Rattle.be_order.proofs.numbers.first_listed.Given as goal

abbrev pub ghost-push_if_true : goal.ghost-push_if_true
ghost-push_if_true g a = g.volume

-- The nodes so far that satisfy the condition are in the list.
abbrev pub invariant-loop-node : goal.invariant-loop-node
invariant-loop-node g l = record {
  parts : filter (sat g.volume (formula l.left.tree.now)) l.nodes ≡ l.found.items ++ filter (sat g.volume (formula l.left.tree.now)) (drop l.node-index l.nodes);
  few : length l.found.items ≤ l.most;
  stays : g.S.Source.kept l.source ≡ g.S.Source.kept l.initial.source;
  answers : g.S.Source.answers_for l.source g.volume;
}
