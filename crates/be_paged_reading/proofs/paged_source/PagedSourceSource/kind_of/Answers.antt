use Rattle.std.proofs.Common.{[], Some, ap, ◌∙◌}
use Rattle.be_value.specs.declared.values.Kind.{Kind}
use Rattle.be_value.specs.declared.values.Kind.TheVariants as kinds
use Rattle.be_paged_reading.specs.Entry.{Entry}
use Rattle.be_paged_reading.specs.Page.{contents_of}
use Rattle.be_paged_reading.proofs.IndexEntries.Indexing.{kind_found, kind_absent}
use Rattle.be_paged_reading.proofs.Stored.PageIndices.{source_since}
use Rattle.be_paged_reading.proofs.Versions.{version_since}
use Rattle.be_paged_reading.proofs.paged_source.PagedSourceSource.kind_of.Goals as goal

nowhere : Entry
nowhere = record { name = []; kind = kinds.Cstr; root = 0 }

pub known_index-requires : goal.known_index-requires
known_index-requires g c = record { version = (c.requires.0, c.requires.1.version); known = c.requires.1.known_is }

pub returns-in-Some-clause-answer : goal.returns-in-Some-clause-answer
returns-in-Some-clause-answer g c = λ volume of.
    let self = c.args.self.now in
    let w = g.L.Look.words c.known_index.new.look in
    let since = c.in-Some.ensures.unchanged in
    let version = version_since (g.L.Look.page_state self.look) (g.L.Look.page_state c.known_index.new.look) (g.L.Look.words self.look) w self.page volume since.page_state since.words of.version in
    ap (λ (k : Kind). Some k) (c.in-Some.ensures.found.kind nowhere)
    ∙ kind_found w (contents_of (w self.page)).entries volume.indices c.args.name.now c.in-Some.index.place nowhere version.encodes.indices c.in-Some.ensures.found.named

pub returns-in-None-clause-answer : goal.returns-in-None-clause-answer
returns-in-None-clause-answer g c = λ volume of.
    let self = c.args.self.now in
    let w = g.L.Look.words c.known_index.new.look in
    let since = c.in-None.ensures.unchanged in
    let version = version_since (g.L.Look.page_state self.look) (g.L.Look.page_state c.known_index.new.look) (g.L.Look.words self.look) w self.page volume since.page_state since.words of.version in
    kind_absent w (contents_of (w self.page)).entries volume.indices c.args.name.now c.in-None.ensures.found.absent.0 version.encodes.indices c.in-None.ensures.found.absent.1

pub returns-in-Some-clause-answers : goal.returns-in-Some-clause-answers
returns-in-Some-clause-answers g c = λ volume of.
    let self = c.args.self.now in
    let since = c.in-Some.ensures.unchanged in
    source_since (g.L.Look.page_state self.look) (g.L.Look.page_state c.known_index.new.look) (g.L.Look.words self.look) (g.L.Look.words c.known_index.new.look) self.page self.known c.known_index.new.known self.cursor self.place self.last.0 self.last.1 volume since.page_state since.words c.in-Some.ensures.known of

pub returns-in-None-clause-answers : goal.returns-in-None-clause-answers
returns-in-None-clause-answers g c = λ volume of.
    let self = c.args.self.now in
    let since = c.in-None.ensures.unchanged in
    source_since (g.L.Look.page_state self.look) (g.L.Look.page_state c.known_index.new.look) (g.L.Look.words self.look) (g.L.Look.words c.known_index.new.look) self.page self.known c.known_index.new.known self.cursor self.place self.last.0 self.last.1 volume since.page_state since.words c.in-None.ensures.known of
