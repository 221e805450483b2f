use Rattle.std.proofs.Common.{◌≡◌, ℕ, false, [], Some, None, ap, sym, subst, ◌∙◌, refl, is_some, IsTrue}
use Rattle.std.specs.Option.{option_map_or}
use Rattle.std.specs.declared.option.Option.{Option}
use Rattle.std.specs.FinMap as fin
use Rattle.be_query.specs.View.{literal}
use Rattle.be_value.specs.declared.values.Kind.{Kind}
use Rattle.be_value.specs.declared.values.Kind.TheVariants as kinds
use Rattle.be_value.specs.declared.values.Value.{Value}
use Rattle.be_pages.specs.declared.room.PageState.{PageState}
use Rattle.be_tree_reading.specs.Key.{payload_at}
use Rattle.be_pages.specs.Pages.{is_readable}
use Rattle.be_tree_reading.specs.Page.{IsItem, item_at}
use Rattle.be_tree_reading.specs.Tree.{IsTree, pairs}
use Rattle.be_volume.specs.Query.{holds}
use Rattle.be_volume.specs.Reading.{attribute}
use Rattle.be_paged_reading.specs.Catalog.{IsCatalog}
use Rattle.be_paged_reading.specs.Entry.{Entry}
use Rattle.be_paged_reading.specs.Page.{contents_of}
use Rattle.be_paged_reading.specs.Source.{IsKnown, has_pair}
use Rattle.be_paged_reading.proofs.Asking.SeenValues.{seen_false, seen_indexed, seen_plain}
use Rattle.be_paged_reading.proofs.Asking.SourceKeys.{entry_tree, key_found, key_finds}
use Rattle.be_paged_reading.proofs.CatalogPairs.FactValues.{holds_read, value_absent}
use Rattle.be_paged_reading.proofs.CatalogPairs.Validity.{values_valid}
use Rattle.be_paged_reading.proofs.IndexEntries.Indexing.{gap_none, kind_found}
use Rattle.be_paged_reading.proofs.Versions.{version_since}
use Rattle.be_paged_reading.proofs.reading.holds_in.Goals as goal

nowhere : Entry
nowhere = record { name = []; kind = kinds.Cstr; root = 0 }

pub known_index-requires : goal.known_index-requires
known_index-requires g c =
    let s = g.L.Look.page_state c.args.look.now in
    let w = g.L.Look.words c.args.look.now in
    let page_state = c.holds_at.ensures.unchanged.page_state ∙ c.in-Some.ensures.unchanged.page_state ∙ c.word-catalog.ensures.page_state in
    let words = c.holds_at.ensures.unchanged.words ∙ c.in-Some.ensures.unchanged.words ∙ c.word-catalog.ensures.words in
    record {
      version = (c.requires.version.0, version_since s (g.L.Look.page_state c.holds_at.new.look) w (g.L.Look.words c.holds_at.new.look) c.args.version_page c.requires.version.0 page_state words c.requires.version.1);
      known = subst (λ (u : ℕ → ℕ → ℕ). IsKnown (contents_of (u c.args.version_page)).entries c.args.known.now) (sym words) c.requires.known;
    }

pub returns-in_default-clause-answer : goal.returns-in_default-clause-answer
returns-in_default-clause-answer g c = λ volume version.
    let asked = c.args.comparison.now in
    let reported = λ (v : Value). holds asked.op v (literal asked.literal) in
    let words = g.L.Look.words c.word-catalog.new.self in
    let root = subst (λ (r : ℕ). IsCatalog (pairs (g.L.Look.words c.args.look.now) r) volume.nodes) (sym c.word-catalog.ensures.value) version.encodes.catalog in
    let catalog = subst (λ (w : ℕ → ℕ → ℕ). IsCatalog (pairs w c.word-catalog.result) volume.nodes) (sym c.word-catalog.ensures.words) root in
    seen_false volume version.sound asked.name c.args.node reported
    (sym (ap (λ (a : Option Value). option_map_or reported a false)
    (value_absent (pairs words c.word-catalog.result) volume.nodes c.args.node asked.name c.deref.result.now catalog c.ranges.node.fits c.catalog_key-key.ensures.valid
    (c.deref.ensures.0 ∙ c.catalog_key-key.ensures.key) c.in_default.ensures.none)))

pub returns-then-not-holds_at-clause-answer : goal.returns-then-not-holds_at-clause-answer
returns-then-not-holds_at-clause-answer g c = λ volume version.
    let asked = c.args.comparison.now in
    let reported = λ (v : Value). holds asked.op v (literal asked.literal) in
    let words = g.L.Look.words c.word-catalog.new.self in
    let root = subst (λ (r : ℕ). IsCatalog (pairs (g.L.Look.words c.args.look.now) r) volume.nodes) (sym c.word-catalog.ensures.value) version.encodes.catalog in
    let catalog = subst (λ (w : ℕ → ℕ → ℕ). IsCatalog (pairs w c.word-catalog.result) volume.nodes) (sym c.word-catalog.ensures.words) root in
    let read : c.holds_at.result ≡ option_map_or reported (attribute volume c.args.node asked.name) false =
    holds_read (pairs words c.word-catalog.result) volume.nodes c.args.node asked.name c.deref.result.now (item_at (words c.in-Some.page) c.in-Some.at).payload c.holds_at.result reported
    catalog (values_valid volume version.sound) c.ranges.node.fits c.catalog_key-key.ensures.valid (c.deref.ensures.0 ∙ c.catalog_key-key.ensures.key) c.in-Some.ensures.some
    (λ v is same. c.holds_at.ensures.holds v is (ap (λ (w : ℕ → ℕ → ℕ). (item_at (w c.in-Some.page) c.in-Some.at).payload) c.in-Some.ensures.unchanged.words ∙ same)) in
    seen_false volume version.sound asked.name c.args.node reported (sym read ∙ c.if-not-holds_at.true)

pub returns-in-None-clause-answer : goal.returns-in-None-clause-answer
returns-in-None-clause-answer g c = λ volume version.
    let asked = c.args.comparison.now in
    let reported = λ (v : Value). holds asked.op v (literal asked.literal) in
    let words = g.L.Look.words c.word-catalog.new.self in
    let root = subst (λ (r : ℕ). IsCatalog (pairs (g.L.Look.words c.args.look.now) r) volume.nodes) (sym c.word-catalog.ensures.value) version.encodes.catalog in
    let catalog = subst (λ (w : ℕ → ℕ → ℕ). IsCatalog (pairs w c.word-catalog.result) volume.nodes) (sym c.word-catalog.ensures.words) root in
    let read : c.holds_at.result ≡ option_map_or reported (attribute volume c.args.node asked.name) false =
    holds_read (pairs words c.word-catalog.result) volume.nodes c.args.node asked.name c.deref.result.now (item_at (words c.in-Some.page) c.in-Some.at).payload c.holds_at.result reported
    catalog (values_valid volume version.sound) c.ranges.node.fits c.catalog_key-key.ensures.valid (c.deref.ensures.0 ∙ c.catalog_key-key.ensures.key) c.in-Some.ensures.some
    (λ v is same. c.holds_at.ensures.holds v is (ap (λ (w : ℕ → ℕ → ℕ). (item_at (w c.in-Some.page) c.in-Some.at).payload) c.in-Some.ensures.unchanged.words ∙ same)) in
    let now = g.L.Look.words c.known_index.new.look in
    let since = c.in-None.ensures.unchanged.words ∙ c.holds_at.ensures.unchanged.words ∙ c.in-Some.ensures.unchanged.words ∙ c.word-catalog.ensures.words in
    let page_state = c.in-None.ensures.unchanged.page_state ∙ c.holds_at.ensures.unchanged.page_state ∙ c.in-Some.ensures.unchanged.page_state ∙ c.word-catalog.ensures.page_state in
    let later = version_since (g.L.Look.page_state c.args.look.now) (g.L.Look.page_state c.known_index.new.look) (g.L.Look.words c.args.look.now) now c.args.version_page volume page_state since version in
    let entries = (contents_of (now c.args.version_page)).entries in
    let none : fin.get volume.indices asked.name ≡ None =
    fin.get-entries volume.indices asked.name
    ∙ gap_none now entries (fin.entries volume.indices) asked.name c.in-None.ensures.found.absent.0 later.encodes.indices (fin.entries_sorted volume.indices) c.in-None.ensures.found.absent.1 in
    seen_plain volume version.sound asked.name c.args.node reported none (sym read ∙ c.if-not-holds_at.false)

pub returns-in-Some-known_index-clause-answer : goal.returns-in-Some-known_index-clause-answer
returns-in-Some-known_index-clause-answer g c = λ volume version.
    let asked = c.args.comparison.now in
    let reported = λ (v : Value). holds asked.op v (literal asked.literal) in
    let words = g.L.Look.words c.word-catalog.new.self in
    let root = subst (λ (r : ℕ). IsCatalog (pairs (g.L.Look.words c.args.look.now) r) volume.nodes) (sym c.word-catalog.ensures.value) version.encodes.catalog in
    let catalog = subst (λ (w : ℕ → ℕ → ℕ). IsCatalog (pairs w c.word-catalog.result) volume.nodes) (sym c.word-catalog.ensures.words) root in
    let read : c.holds_at.result ≡ option_map_or reported (attribute volume c.args.node asked.name) false =
    holds_read (pairs words c.word-catalog.result) volume.nodes c.args.node asked.name c.deref.result.now (item_at (words c.in-Some.page) c.in-Some.at).payload c.holds_at.result reported
    catalog (values_valid volume version.sound) c.ranges.node.fits c.catalog_key-key.ensures.valid (c.deref.ensures.0 ∙ c.catalog_key-key.ensures.key) c.in-Some.ensures.some
    (λ v is same. c.holds_at.ensures.holds v is (ap (λ (w : ℕ → ℕ → ℕ). (item_at (w c.in-Some.page) c.in-Some.at).payload) c.in-Some.ensures.unchanged.words ∙ same)) in
    let index = c.in-Some-known_index.index in
    let is_found = c.in-Some-known_index.ensures.found in
    let now = g.L.Look.words c.known_index.new.look in
    let moved = c.in-Some-known_index.ensures.unchanged.words ∙ c.holds_at.ensures.unchanged.words ∙ c.in-Some.ensures.unchanged.words in
    let since = moved ∙ c.word-catalog.ensures.words in
    let page_state = c.in-Some-known_index.ensures.unchanged.page_state ∙ c.holds_at.ensures.unchanged.page_state ∙ c.in-Some.ensures.unchanged.page_state ∙ c.word-catalog.ensures.page_state in
    let later = version_since (g.L.Look.page_state c.args.look.now) (g.L.Look.page_state c.known_index.new.look) (g.L.Look.words c.args.look.now) now c.args.version_page volume page_state since version in
    let contents = contents_of (now c.args.version_page) in
    let items = pairs now index.root in
    let kinds_are = sym (ap (λ (k : Kind). Some k) (is_found.kind nowhere) ∙ kind_found now contents.entries volume.indices asked.name index.place nowhere later.encodes.indices is_found.named) in
    let indexed : c.is_indexed_at.result ≡ option_map_or (has_pair items c.args.node) (attribute volume c.args.node asked.name) false =
    holds_read (pairs words c.word-catalog.result) volume.nodes c.args.node asked.name c.deref.result.now (item_at (words c.in-Some.page) c.in-Some.at).payload c.is_indexed_at.result (has_pair items c.args.node)
    catalog (values_valid volume version.sound) c.ranges.node.fits c.catalog_key-key.ensures.valid (c.deref.ensures.0 ∙ c.catalog_key-key.ensures.key) c.in-Some.ensures.some
    (λ v is same. c.is_indexed_at.ensures.has v is (ap (λ (w : ℕ → ℕ → ℕ). (item_at (w c.in-Some.page) c.in-Some.at).payload) moved ∙ same)) in
    indexed ∙ seen_indexed volume version.sound asked.name c.args.node reported items index.kind c.ranges.node.fits kinds_are
    (λ k e. key_found now contents volume asked.name index.place later.encodes nowhere is_found.named k (ap (λ (r : ℕ). is_some (payload_at (pairs now r) k)) (sym (is_found.root nowhere)) ∙ e))
    (λ k e. ap (λ (r : ℕ). is_some (payload_at (pairs now r) k)) (is_found.root nowhere) ∙ key_finds now contents volume asked.name index.place later.encodes nowhere is_found.named k e)
    (attribute volume c.args.node asked.name) refl (sym read ∙ c.if-not-holds_at.false)

pub is_indexed_at-requires-clause-tree : goal.is_indexed_at-requires-clause-tree
is_indexed_at-requires-clause-tree g c =
    let s = g.L.Look.page_state c.known_index.new.look in
    let w = g.L.Look.words c.known_index.new.look in
    let index = c.in-Some-known_index.index in
    let is_found = c.in-Some-known_index.ensures.found in
    let since = c.in-Some-known_index.ensures.unchanged.words ∙ c.holds_at.ensures.unchanged.words ∙ c.in-Some.ensures.unchanged.words ∙ c.word-catalog.ensures.words in
    let page_state = c.in-Some-known_index.ensures.unchanged.page_state ∙ c.holds_at.ensures.unchanged.page_state ∙ c.in-Some.ensures.unchanged.page_state ∙ c.word-catalog.ensures.page_state in
    let later = version_since (g.L.Look.page_state c.args.look.now) s (g.L.Look.words c.args.look.now) w c.args.version_page c.requires.version.0 page_state since c.requires.version.1 in
    subst (λ (r : ℕ). IsTree s w r) (sym (is_found.root nowhere)) (entry_tree s w (contents_of (w c.args.version_page)) index.place nowhere later.in_hand is_found.named.in_range)

pub is_indexed_at-requires-clause-item : goal.is_indexed_at-requires-clause-item
is_indexed_at-requires-clause-item g c =
    let page_state = c.in-Some-known_index.ensures.unchanged.page_state ∙ c.holds_at.ensures.unchanged.page_state ∙ c.in-Some.ensures.unchanged.page_state in
    let words = c.in-Some-known_index.ensures.unchanged.words ∙ c.holds_at.ensures.unchanged.words ∙ c.in-Some.ensures.unchanged.words in (
      subst (λ (s : ℕ → PageState). IsTrue (is_readable (s c.in-Some.page))) (sym page_state) c.in-Some.ensures.readable,
      (c.in-Some.ensures.in_page, subst (λ (w : ℕ → ℕ → ℕ). IsItem (w c.in-Some.page) c.in-Some.at) (sym words) c.in-Some.ensures.fits),
    )

pub returns-in_default-clause-known : goal.returns-in_default-clause-known
returns-in_default-clause-known g c =
    subst (λ (u : ℕ → ℕ → ℕ). IsKnown (contents_of (u c.args.version_page)).entries c.args.known.now) (sym (c.in_default.ensures.unchanged.words ∙ c.word-catalog.ensures.words)) c.requires.known

pub returns-then-not-holds_at-clause-known : goal.returns-then-not-holds_at-clause-known
returns-then-not-holds_at-clause-known g c =
    subst (λ (u : ℕ → ℕ → ℕ). IsKnown (contents_of (u c.args.version_page)).entries c.args.known.now)
    (sym (c.holds_at.ensures.unchanged.words ∙ c.in-Some.ensures.unchanged.words ∙ c.word-catalog.ensures.words)) c.requires.known

pub returns-in-Some-known_index-clause-known : goal.returns-in-Some-known_index-clause-known
returns-in-Some-known_index-clause-known g c =
    subst (λ (u : ℕ → ℕ → ℕ). IsKnown (contents_of (u c.args.version_page)).entries c.known_index.new.known) (sym c.is_indexed_at.ensures.unchanged.words) c.in-Some-known_index.ensures.known
