use Rattle.std.proofs.Common.{sym, ap, ◌∙◌, arith}
use Rattle.be_volume.specs.Ahead.{state_after}
use Rattle.be_volume.specs.Volume.{State, empty}
use Rattle.be_journal.proofs.LegalLemmas.{replay_more}
use Rattle.be_journal.proofs.journals.replay.Goals as goal

pub loop-entry-preserved : goal.loop-entry-preserved
loop-entry-preserved c = record {
  volume = c.in_ok-volume.ensures.after
      ∙ ap (λ (s : State). state_after s c.entry-item.result.ops) c.loop-entry.invariant.volume
      ∙ sym (replay_more empty c.args.entries.now c.loop-entry.entry-index c.entry-item.result c.loop-entry-test.true c.entry-item.is);
  bound = omega (arith, c.in_ok-volume.ensures.grows, c.loop-entry.invariant.bound);
}
