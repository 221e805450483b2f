use Rattle.be_paged_reading.proofs.Versions.{version_since}
use Rattle.be_paged_reading.proofs.paged_whole.PagedWholeWhole.next.Goals as goal

pub next-requires : goal.next-requires
next-requires g c = record { version = (c.requires.0, c.requires.1) }

pub returns-clause-answer : goal.returns-clause-answer
returns-clause-answer g c = λ volume of. c.next.ensures.next volume of

pub returns-clause-answers : goal.returns-clause-answers
returns-clause-answers g c = λ volume of.
    let self = c.args.self.now in
    let since = c.next.ensures.unchanged in
    version_since (g.L.Look.page_state self.look) (g.L.Look.page_state c.next.new.look) (g.L.Look.words self.look) (g.L.Look.words c.next.new.look) self.page volume since.page_state since.words of
