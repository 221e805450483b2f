use Rattle.std.proofs.Common.{take}
use Rattle.be_journal.specs.Journal.{replay_from}
use Rattle.be_table.specs.Rule.{entries}
use Rattle.be_table.proofs.Pins.{looked_version}
use Rattle.be_table_tests.proofs.tests.reads.value_of.Goals as goal

pub get-value-requires : goal.get-value-requires
get-value-requires c =
    let p = c.requires.pinned in let look = c.pinned_look-look.ensures in
    record { version = (replay_from c.pinned_look-look.result.knows.limits.volume (take p.1 (entries c.pinned_look-look.result.knows.seen)), looked_version c.args.seat.knows c.pinned_look-look.result.knows p.1 c.version_page-page.result look.look.1 (c.version_page-page.ensures.page p.0 p.1 p.2) (look.version p.0 p.1 p.2)) }
