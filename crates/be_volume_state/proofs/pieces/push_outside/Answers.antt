use Rattle.std.proofs.Common.{◌∙◌, ap, not}
use Rattle.be_volume_state.specs.Rebuilding.{is_held}
use Rattle.be_volume_state.proofs.Pushed.{one_further}
use Rattle.be_volume_state.proofs.pieces.push_outside.Goals as goal

pub is_held-is_held-requires : goal.is_held-is_held-requires
is_held-is_held-requires g c = (g.volume, c.loop-name.invariant.answers)

pub loop-name-preserved : goal.loop-name-preserved
loop-name-preserved g c = record {
  stays = c.is_held-is_held.ensures.stays ∙ c.loop-name.invariant.stays;
  answers = c.is_held-is_held.ensures.answers g.volume c.loop-name.invariant.answers;
  ops = one_further (λ e. not (is_held g.volume c.args.node e.0)) c.args.node c.args.attributes.now c.loop-name.name-index c.loop-name-item.result c.args.ops.now.items c.loop-name.ops.items c.push_set.new.ops.items _
      c.loop-name-test.true c.loop-name-item.is (ap not (c.is_held-is_held.ensures.answer g.volume c.loop-name.invariant.answers)) c.loop-name.invariant.ops c.in_ok-push_set.ensures;
}
