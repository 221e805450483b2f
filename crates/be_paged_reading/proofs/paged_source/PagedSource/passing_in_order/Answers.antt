use Rattle.std.proofs.Common.{ℕ, [], sym, subst, ◌∙◌}
use Rattle.be_tree_reading.specs.Tree.{IsTree, pairs}
use Rattle.be_value.specs.declared.values.Kind.TheVariants as kinds
use Rattle.be_paged_reading.specs.Entry.{Entry}
use Rattle.be_paged_reading.specs.Page.{contents_of}
use Rattle.be_paged_reading.specs.Source.{HasPassing, IsKnown}
use Rattle.be_paged_reading.specs.KeyTests.{AreTestable}
use Rattle.be_paged_reading.proofs.Stored.PageIndices.{source_since}
use Rattle.be_paged_reading.proofs.Asking.Picking.{keys_testable}
use Rattle.be_paged_reading.proofs.Asking.SourceKeys.{entry_tree}
use Rattle.be_paged_reading.proofs.Versions.{version_since}
use Rattle.be_paged_reading.proofs.paged_source.PagedSource.passing_in_order.Goals as goal

nowhere : Entry
nowhere = record { name = []; kind = kinds.Cstr; root = 0 }

pub known_index-requires : goal.known_index-requires
known_index-requires g c = record { version = (c.requires.0, c.requires.1.version); known = c.requires.1.known_is }

pub passing_in_order-requires-clause-tree : goal.passing_in_order-requires-clause-tree
passing_in_order-requires-clause-tree g c =
    let self = c.args.self.now in
    let s = g.L.Look.page_state c.known_index.new.look in
    let w = g.L.Look.words c.known_index.new.look in
    let since = c.in-Some.ensures.unchanged in
    let version = version_since (g.L.Look.page_state self.look) s (g.L.Look.words self.look) w self.page c.requires.0 since.page_state since.words c.requires.1.version in
    subst (IsTree s w) (sym (c.in-Some.ensures.found.root nowhere)) (entry_tree s w (contents_of (w self.page)) c.in-Some.index.place nowhere version.in_hand c.in-Some.ensures.found.named.in_range)

pub passing_in_order-requires-clause-testable : goal.passing_in_order-requires-clause-testable
passing_in_order-requires-clause-testable g c =
    let self = c.args.self.now in
    let s = g.L.Look.page_state c.known_index.new.look in
    let w = g.L.Look.words c.known_index.new.look in
    let since = c.in-Some.ensures.unchanged in
    let version = version_since (g.L.Look.page_state self.look) s (g.L.Look.words self.look) w self.page c.requires.0 since.page_state since.words c.requires.1.version in
    subst (λ (r : ℕ). AreTestable c.args.test (pairs w r)) (sym (c.in-Some.ensures.found.root nowhere))
    (keys_testable w (contents_of (w self.page)) c.requires.0 c.args.name.now c.in-Some.index.place nowhere version.encodes c.in-Some.ensures.found.named version.sound c.args.test
    (λ e. sym (c.in-Some.ensures.found.kind nowhere) ∙ c.is_testable.ensures c.if-not-is_testable.false e))

pub returns-in_default-clause-passing : goal.returns-in_default-clause-passing
returns-in_default-clause-passing g c = λ e. absurd (cc e)

pub returns-then-not-is_testable-clause-passing : goal.returns-then-not-is_testable-clause-passing
returns-then-not-is_testable-clause-passing g c = λ e. absurd (cc e)

pub returns-clause-passing : goal.returns-clause-passing
returns-clause-passing g c = λ _.
    subst (λ (u : ℕ → ℕ → ℕ). HasPassing u (contents_of (u c.args.self.now.page)).entries c.args.name.now c.args.way c.args.test c.args.most c.passing_in_order.new.found.items)
    c.in-Some.ensures.unchanged.words
    (record { index = c.in-Some.index; found = c.in-Some.ensures.found; has_texts = c.is_testable.ensures c.if-not-is_testable.false; nodes_are = c.in_ok-passing_in_order.ensures.found })

pub returns-in_default-clause-answers : goal.returns-in_default-clause-answers
returns-in_default-clause-answers g c = λ volume of.
    let self = c.args.self.now in
    let since = c.in_default.ensures.unchanged in
    source_since (g.L.Look.page_state self.look) (g.L.Look.page_state c.known_index.new.look) (g.L.Look.words self.look) (g.L.Look.words c.known_index.new.look) self.page self.known c.known_index.new.known self.cursor self.place self.last.0 self.last.1 volume since.page_state since.words c.in_default.ensures.known of

pub returns-then-not-is_testable-clause-answers : goal.returns-then-not-is_testable-clause-answers
returns-then-not-is_testable-clause-answers g c = λ volume of.
    let self = c.args.self.now in
    let since = c.in-Some.ensures.unchanged in
    source_since (g.L.Look.page_state self.look) (g.L.Look.page_state c.known_index.new.look) (g.L.Look.words self.look) (g.L.Look.words c.known_index.new.look) self.page self.known c.known_index.new.known self.cursor self.place self.last.0 self.last.1 volume since.page_state since.words c.in-Some.ensures.known of

pub returns-in_err-passing_in_order-clause-answers : goal.returns-in_err-passing_in_order-clause-answers
returns-in_err-passing_in_order-clause-answers g c = λ volume of.
    let self = c.args.self.now in
    let first = c.in-Some.ensures.unchanged in
    let last = c.passing_in_order.ensures.unchanged in
    source_since (g.L.Look.page_state self.look) (g.L.Look.page_state c.passing_in_order.new.look) (g.L.Look.words self.look) (g.L.Look.words c.passing_in_order.new.look) self.page self.known c.known_index.new.known self.cursor self.place self.last.0 self.last.1 volume
    (last.page_state ∙ first.page_state) (last.words ∙ first.words) (subst (λ (u : ℕ → ℕ → ℕ). IsKnown (contents_of (u self.page)).entries c.known_index.new.known) (sym last.words) c.in-Some.ensures.known) of

pub returns-clause-answers : goal.returns-clause-answers
returns-clause-answers g c = λ volume of.
    let self = c.args.self.now in
    let first = c.in-Some.ensures.unchanged in
    let last = c.passing_in_order.ensures.unchanged in
    source_since (g.L.Look.page_state self.look) (g.L.Look.page_state c.passing_in_order.new.look) (g.L.Look.words self.look) (g.L.Look.words c.passing_in_order.new.look) self.page self.known c.known_index.new.known self.cursor self.place self.last.0 self.last.1 volume
    (last.page_state ∙ first.page_state) (last.words ∙ first.words) (subst (λ (u : ℕ → ℕ → ℕ). IsKnown (contents_of (u self.page)).entries c.known_index.new.known) (sym last.words) c.in-Some.ensures.known) of
