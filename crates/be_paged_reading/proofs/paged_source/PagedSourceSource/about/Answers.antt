use Rattle.std.proofs.Common.{ℕ, [], sym, subst, ◌∙◌}
use Rattle.be_tree_reading.specs.Tree.{IsTree}
use Rattle.be_value.specs.declared.values.Kind.TheVariants as kinds
use Rattle.be_paged_reading.specs.Entry.{Entry}
use Rattle.be_paged_reading.specs.Page.{contents_of}
use Rattle.be_paged_reading.specs.Source.{IsKnown}
use Rattle.be_paged_reading.proofs.Stored.PageIndices.{source_since}
use Rattle.be_paged_reading.proofs.Asking.SourceKeys.{entry_tree}
use Rattle.be_paged_reading.proofs.Versions.{version_since}
use Rattle.be_paged_reading.proofs.paged_source.PagedSourceSource.about.Goals as goal

nowhere : Entry
nowhere = record { name = []; kind = kinds.Cstr; root = 0 }

pub known_index-requires : goal.known_index-requires
known_index-requires g c = record { version = (c.requires.0, c.requires.1.version); known = c.requires.1.known_is }

pub about_within-requires : goal.about_within-requires
about_within-requires g c =
    let self = c.args.self.now in
    let s = g.L.Look.page_state c.known_index.new.look in
    let w = g.L.Look.words c.known_index.new.look in
    let since = c.in-Some.ensures.unchanged in
    let version = version_since (g.L.Look.page_state self.look) s (g.L.Look.words self.look) w self.page c.requires.0 since.page_state since.words c.requires.1.version in
    record {
      tree = subst (λ (r : ℕ). IsTree s w r) (sym (c.in-Some.ensures.found.root nowhere))
          (entry_tree s w (contents_of (w self.page)) c.in-Some.index.place nowhere version.in_hand c.in-Some.ensures.found.named.in_range);
    }

pub returns-in-Some-clause-answers : goal.returns-in-Some-clause-answers
returns-in-Some-clause-answers g c = λ volume of.
    let self = c.args.self.now in
    let first = c.in-Some.ensures.unchanged in
    let last = c.about_within.ensures.unchanged in
    source_since (g.L.Look.page_state self.look) (g.L.Look.page_state c.about_within.new.look) (g.L.Look.words self.look) (g.L.Look.words c.about_within.new.look) self.page self.known c.known_index.new.known self.cursor self.place self.last.0 self.last.1 volume
    (last.page_state ∙ first.page_state) (last.words ∙ first.words) (subst (λ (u : ℕ → ℕ → ℕ). IsKnown (contents_of (u self.page)).entries c.known_index.new.known) (sym last.words) c.in-Some.ensures.known) of

pub returns-in-None-clause-answers : goal.returns-in-None-clause-answers
returns-in-None-clause-answers g c = λ volume of.
    let self = c.args.self.now in
    let since = c.in-None.ensures.unchanged in
    source_since (g.L.Look.page_state self.look) (g.L.Look.page_state c.known_index.new.look) (g.L.Look.words self.look) (g.L.Look.words c.known_index.new.look) self.page self.known c.known_index.new.known self.cursor self.place self.last.0 self.last.1 volume since.page_state since.words c.in-None.ensures.known of
