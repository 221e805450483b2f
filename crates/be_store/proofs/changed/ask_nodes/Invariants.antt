use Rattle.std.proofs.Common.{◌≡◌, ◌&&◌, not, filter, take}
use Rattle.be_query.specs.View.{formula}
use Rattle.be_volume.specs.Query.{sat}
use Rattle.be_store.specs.Live.{is_among}
use Rattle.be_store.proofs.changed.ask_nodes.Given as goal

abbrev pub invariant-loop-node : goal.invariant-loop-node
invariant-loop-node g l = record {
  stays : g.S.Source.kept l.source ≡ g.S.Source.kept l.fn.source;
  answers : g.S.Source.answers_for l.source g.volume;
  created : l.updates.created.items ≡ filter (λ n. sat g.volume (formula l.tree) n && not (is_among l.list n)) (take l.node-index l.nodes);
  removed : l.updates.removed.items ≡ filter (λ n. is_among l.list n && not (sat g.volume (formula l.tree) n)) (take l.node-index l.nodes);
}
