use Rattle.std.proofs.Common.{ℕ, sym, subst}
use Rattle.be_paged_reading.specs.Page.{contents_of}
use Rattle.be_paged_reading.specs.Source.{IsKnown}
use Rattle.be_paged_reading.proofs.Stored.PageIndices.{source_since}
use Rattle.be_paged_reading.proofs.paged_source.PagedSourceSource.value.Goals as goal

pub get-requires : goal.get-requires
get-requires g c = record { version = (c.requires.0, c.requires.1.version) }

pub returns-clause-answer : goal.returns-clause-answer
returns-clause-answer g c = λ volume of. c.get.ensures.value volume of.version

pub returns-clause-answers : goal.returns-clause-answers
returns-clause-answers g c = λ volume of.
    let self = c.args.self.now in
    let since = c.get.ensures.unchanged in
    source_since (g.L.Look.page_state self.look) (g.L.Look.page_state c.get.new.look) (g.L.Look.words self.look) (g.L.Look.words c.get.new.look) self.page self.known self.known self.cursor self.place self.last.0 self.last.1 volume since.page_state since.words
    (subst (λ (u : ℕ → ℕ → ℕ). IsKnown (contents_of (u self.page)).entries self.known) (sym since.words) of.known_is) of
