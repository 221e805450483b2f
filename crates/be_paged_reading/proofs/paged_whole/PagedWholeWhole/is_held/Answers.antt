use Rattle.be_paged_reading.proofs.Versions.{version_since}
use Rattle.be_paged_reading.proofs.paged_whole.PagedWholeWhole.is_held.Goals as goal

pub index_has-requires : goal.index_has-requires
index_has-requires g c = record { version = (c.requires.0, c.requires.1) }

pub returns-clause-answer : goal.returns-clause-answer
returns-clause-answer g c = λ volume of. c.index_has.ensures.held volume of

pub returns-clause-answers : goal.returns-clause-answers
returns-clause-answers g c = λ volume of.
    let self = c.args.self.now in
    let since = c.index_has.ensures.unchanged in
    version_since (g.L.Look.page_state self.look) (g.L.Look.page_state c.index_has.new.look) (g.L.Look.words self.look) (g.L.Look.words c.index_has.new.look) self.page volume since.page_state since.words of
