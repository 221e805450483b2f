use Rattle.std.proofs.Common.{◌≡◌, ◌++◌, filter, not, take}
use Rattle.be_volume_state.specs.Rebuilding.{is_held, set_all}
use Rattle.be_volume_state.proofs.pieces.push_outside.Given as goal

abbrev pub invariant-loop-name : goal.invariant-loop-name
invariant-loop-name g l = record {
  stays : g.W.Whole.kept l.whole ≡ g.W.Whole.kept l.initial.whole;
  answers : g.W.Whole.answers_for l.whole g.volume;
  ops : l.ops.items ≡ l.initial.ops.items ++ set_all l.node (filter (λ e. not (is_held g.volume l.node e.0)) (take l.name-index l.attributes));
}
