use Rattle.std.proofs.Common.{◌≡◌, ◌≤◌, ◌++◌, length}
use Rattle.be_query.specs.View.{formula}
use Rattle.be_order.specs.Firsts.{true_from}
use Rattle.be_order.proofs.numbers.first_tested.Given as goal

abbrev pub ghost-push_if_true : goal.ghost-push_if_true
ghost-push_if_true g a = g.volume

-- The nodes before the number are in the list.
abbrev pub invariant-loop-number : goal.invariant-loop-number
invariant-loop-number g l = record {
  parts : true_from g.volume (formula l.left.tree.now) l.first ≡ l.found.items ++ true_from g.volume (formula l.left.tree.now) l.number;
  few : length l.found.items ≤ l.most;
  stays : g.S.Source.kept l.source ≡ g.S.Source.kept l.initial.source;
  answers : g.S.Source.answers_for l.source g.volume;
}
