use Rattle.std.proofs.Common.{◌≡◌, ◌≤◌, ◌+◌, ◌*◌, take}
use Rattle.be_journal.specs.Journal.{replay}
use Rattle.be_journal.proofs.journals.replay.Given as goal

abbrev pub invariant-loop-entry : goal.invariant-loop-entry
invariant-loop-entry l = record {
  volume : l.volume ≡ replay (take l.entry-index l.entries);
  bound : l.volume.next ≤ 1 + 64 * l.entry-index;
}
