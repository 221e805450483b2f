use Rattle.std.proofs.Common.{◌≡◌, ◌++◌}
use Rattle.std.specs.Option.{option_copied}
use Rattle.be_query.specs.View.{formula}
use Rattle.be_order.specs.Asked.{true_after}
use Rattle.be_order.specs.Ordered.{cursor_bytes}
use Rattle.be_order.proofs.asked.ask_parts.Given as goal

abbrev pub ghost-next_part : goal.ghost-next_part
ghost-next_part g a = g.volume

abbrev pub ghost-push_true : goal.ghost-push_true
ghost-push_true g a = g.volume

abbrev pub invariant-loop : goal.invariant-loop
invariant-loop g l = record {
  parts : true_after g.volume (formula l.left.tree.now) l.walk.keys.name.now l.walk.keys.low.now (option_copied l.walk.keys.high) l.walk.descending (cursor_bytes l.initial.at)
      ≡ l.found.items ++ true_after g.volume (formula l.left.tree.now) l.walk.keys.name.now l.walk.keys.low.now (option_copied l.walk.keys.high) l.walk.descending (cursor_bytes l.at);
  stays : g.S.Source.kept l.source ≡ g.S.Source.kept l.initial.source;
  answers : g.S.Source.answers_for l.source g.volume;
}
