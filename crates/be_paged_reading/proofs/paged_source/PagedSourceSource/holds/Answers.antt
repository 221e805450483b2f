use Rattle.be_paged_reading.proofs.Stored.PageIndices.{source_since}
use Rattle.be_paged_reading.proofs.paged_source.PagedSourceSource.holds.Goals as goal

pub holds_in-requires : goal.holds_in-requires
holds_in-requires g c = record { version = (c.requires.0, c.requires.1.version); test = tt; known = c.requires.1.known_is }

pub returns-clause-answer : goal.returns-clause-answer
returns-clause-answer g c = λ volume of. c.holds_in.ensures.answer volume of.version

pub returns-clause-answers : goal.returns-clause-answers
returns-clause-answers g c = λ volume of.
    let self = c.args.self.now in
    let since = c.holds_in.ensures.unchanged in
    source_since (g.L.Look.page_state self.look) (g.L.Look.page_state c.holds_in.new.look) (g.L.Look.words self.look) (g.L.Look.words c.holds_in.new.look) self.page self.known c.holds_in.new.known self.cursor self.place self.last.0 self.last.1 volume since.page_state since.words
    c.holds_in.ensures.known of
