use Rattle.std.proofs.Common.{take, sym, subst}
use Rattle.be_journal.specs.Journal.{replay_from}
use Rattle.be_paged_reading.specs.Version.{IsVersion}
use Rattle.be_table.specs.declared.pass.Knowledge.{Knowledge}
use Rattle.be_table.specs.Reading.{pinned_page_state, word_of_page}
use Rattle.be_table.specs.Rule.{entries, page_at}
use Rattle.be_table.proofs.Pins.{pinned_version}
use Rattle.be_table.proofs.table.VersionTable.pinned_look.Goals as goal

pub returns-clause-version : goal.returns-clause-version
returns-clause-version c = λ x n is.
    subst (λ (a : Knowledge). IsVersion (pinned_page_state a) (word_of_page a.image) (page_at a.seen n) (replay_from a.limits.volume (take n (entries a.seen)))) (sym c.of.ensures.1)
    (pinned_version c.args.seat.knows x n c.is_pass.ensures is)
