use Rattle.be_paged_reading.proofs.Versions.{version_since}
use Rattle.be_paged_reading.proofs.paged_whole.PagedWholeWhole.attrs.Goals as goal

pub attrs_of-requires : goal.attrs_of-requires
attrs_of-requires g c = record { version = (c.requires.0, c.requires.1) }

pub returns-clause-answer : goal.returns-clause-answer
returns-clause-answer g c = λ volume of. c.attrs_of.ensures.attrs volume of

pub returns-clause-answers : goal.returns-clause-answers
returns-clause-answers g c = λ volume of.
    let self = c.args.self.now in
    let since = c.attrs_of.ensures.unchanged in
    version_since (g.L.Look.page_state self.look) (g.L.Look.page_state c.attrs_of.new.look) (g.L.Look.words self.look) (g.L.Look.words c.attrs_of.new.look) self.page volume since.page_state since.words of
