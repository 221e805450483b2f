use Rattle.std.proofs.Common.{take}
use Rattle.be_journal.specs.Journal.{replay_from}
use Rattle.be_table.specs.Rule.{entries}
use Rattle.be_table.proofs.Pins.{looked_version}
use Rattle.be_table_tests.proofs.tests.reads.ask_source.Goals as goal

pub source-source-requires : goal.source-source-requires
source-source-requires c =
    let p = c.requires.pinned in let look = c.pinned_look.ensures in
    record { version = (replay_from c.pinned_look.result.knows.limits.volume (take p.1 (entries c.pinned_look.result.knows.seen)), looked_version c.args.seat.knows c.pinned_look.result.knows p.1 c.version_page-page.result look.look.1 (c.version_page-page.ensures.page p.0 p.1 p.2) (look.version p.0 p.1 p.2)) }

pub kind_of-kind-requires : goal.kind_of-kind-requires
kind_of-kind-requires c =
    let p = c.requires.pinned in let look = c.pinned_look.ensures in
    let volume = replay_from c.pinned_look.result.knows.limits.volume (take p.1 (entries c.pinned_look.result.knows.seen)) in
    (volume, c.source-source.ensures.answers volume (looked_version c.args.seat.knows c.pinned_look.result.knows p.1 c.version_page-page.result look.look.1 (c.version_page-page.ensures.page p.0 p.1 p.2) (look.version p.0 p.1 p.2)))

pub value-value-requires : goal.value-value-requires
value-value-requires c =
    let p = c.requires.pinned in let look = c.pinned_look.ensures in
    let volume = replay_from c.pinned_look.result.knows.limits.volume (take p.1 (entries c.pinned_look.result.knows.seen)) in
    (volume, c.kind_of-kind.ensures.answers volume (c.source-source.ensures.answers volume (looked_version c.args.seat.knows c.pinned_look.result.knows p.1 c.version_page-page.result look.look.1 (c.version_page-page.ensures.page p.0 p.1 p.2) (look.version p.0 p.1 p.2))))
