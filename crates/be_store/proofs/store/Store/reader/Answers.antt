use Rattle.std.proofs.Common.{◌∙◌, ap}
use Rattle.be_table.specs.Place.{SeatFacts}
use Rattle.be_store.proofs.Passes.{looked_volume, pinned_phase, read_version}
use Rattle.be_store.proofs.store.Store.reader.Goals as goal

pub pinned_look-requires-clause-pinned : goal.pinned_look-requires-clause-pinned
pinned_look-requires-clause-pinned c =
    let pin = c.requires.pinned in let p = pinned_phase c.args.pass.now.knows.phase pin.0 pin.1 in
    (p.0, pin.0, ap (λ (s : SeatFacts). s.knows.phase) c.move_out.ensures.0 ∙ p.1)

pub returns-clause-version : goal.returns-clause-version
returns-clause-version c =
    let pin = c.requires.pinned in let p = pinned_phase c.args.pass.now.knows.phase pin.0 pin.1 in
    let moved = c.move_out.ensures.0 in
    let same = c.pinned_look.ensures.look.1 ∙ ap (λ (s : SeatFacts). s.knows) moved in
    read_version c.args.pass.now.knows c.pinned_look.result.knows c.version_page-page.result same
    (looked_volume c.args.pass.now.knows c.pinned_look.result.knows pin.0 c.version_page-page.result pin.1 same
    (c.version_page-page.ensures.page p.0 pin.0 p.1)
    (c.pinned_look.ensures.version p.0 pin.0 (ap (λ (s : SeatFacts). s.knows.phase) moved ∙ p.1)))
