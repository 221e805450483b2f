use Rattle.be_journal.specs.Journal.{replay_from}
use Rattle.be_table.specs.Rule.{entries}
use Rattle.be_store.proofs.writing.write_current.Given as goal

abbrev pub ghost-apply_to : goal.ghost-apply_to
ghost-apply_to a = replay_from a.writing.now.knows.limits.volume (entries a.writing.now.knows.seen)
