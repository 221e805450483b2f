use Rattle.be_paged_reading.proofs.Versions.{version_since}
use Rattle.be_paged_reading.proofs.paged_whole.PagedWholeWhole.indices.Goals as goal

pub kinds_of-requires : goal.kinds_of-requires
kinds_of-requires g c = record { version = (c.requires.0, c.requires.1) }

pub returns-clause-answer : goal.returns-clause-answer
returns-clause-answer g c = λ volume of. c.kinds_of.ensures.indices volume of

pub returns-clause-answers : goal.returns-clause-answers
returns-clause-answers g c = λ volume of.
    let self = c.args.self.now in
    let since = c.kinds_of.ensures.unchanged in
    version_since (g.L.Look.page_state self.look) (g.L.Look.page_state c.kinds_of.new.look) (g.L.Look.words self.look) (g.L.Look.words c.kinds_of.new.look) self.page volume since.page_state since.words of
