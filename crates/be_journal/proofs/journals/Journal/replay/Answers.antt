use Rattle.std.proofs.Common.{sym, ap, ◌∙◌, arith}
use Rattle.be_volume.specs.Ahead.{state_after}
use Rattle.be_volume.specs.Volume.{State, empty}
use Rattle.be_journal.proofs.LegalLemmas.{replay_more}
use Rattle.be_journal.proofs.ReaderLemmas.{pulled}
use Rattle.be_journal.proofs.journals.Journal.replay.Goals as goal

pub loop-preserved : goal.loop-preserved
loop-preserved c =
    let p = pulled c.args.self.now.entries c.loop.counter c.in_ok-entry.entry c.next.new.self (sym c.loop.invariant.left ∙ c.in_ok-entry.ensures.next) in
    record {
      left = p.left;
      volume = c.in_ok-volume.ensures.after
          ∙ ap (λ (s : State). state_after s c.in_ok-entry.entry.ops) c.loop.invariant.volume
          ∙ sym (replay_more empty c.args.self.now.entries c.loop.counter c.in_ok-entry.entry p.short p.is);
      bound = omega (arith, c.in_ok-volume.ensures.grows, c.loop.invariant.bound);
    }
