use Rattle.std.proofs.Common.{ℕ, List, [], false, sym, subst, ◌∙◌, get_or}
use Rattle.std.specs.List.{Contains}
use Rattle.std.specs.Option.{option_copied}
use Rattle.std.proofs.lemmas.List.Elements.{Contains-append_right}
use Rattle.be_tree_reading.specs.Range.{AreLong, HasFirst, numbers_to, pairs_from}
use Rattle.be_tree_reading.specs.Tree.{IsTree, pairs}
use Rattle.be_tree_reading.proofs.Trees.{tree_rising}
use Rattle.be_value.specs.declared.values.Kind.TheVariants as kinds
use Rattle.be_paged_reading.specs.Entry.{Entry}
use Rattle.be_paged_reading.specs.Page.{contents_of}
use Rattle.be_paged_reading.specs.Source.{IsKnown}
use Rattle.be_paged_reading.proofs.Stored.PageIndices.{source_since}
use Rattle.be_paged_reading.proofs.Asking.RangeNodes.{first_keeps, first_only, keys_long, range_has}
use Rattle.be_paged_reading.proofs.Asking.SourceKeys.{entry_tree, no_key}
use Rattle.be_paged_reading.proofs.Versions.{version_since}
use Rattle.be_paged_reading.proofs.paged_source.PagedSourceSource.nodes_within.Goals as goal

nowhere : Entry
nowhere = record { name = []; kind = kinds.Cstr; root = 0 }

pub known_index-requires : goal.known_index-requires
known_index-requires g c = record { version = (c.requires.0, c.requires.1.version); known = c.requires.1.known_is }

pub returns-in_default-clause-has : goal.returns-in_default-clause-has
returns-in_default-clause-has g c = λ volume of k is.
    let self = c.args.self.now in
    let w = g.L.Look.words c.known_index.new.look in
    let since = c.in_default.ensures.unchanged in
    let version = version_since (g.L.Look.page_state self.look) (g.L.Look.page_state c.known_index.new.look) (g.L.Look.words self.look) w self.page volume since.page_state since.words of.version in
    absurd (no_key w (contents_of (w self.page)) volume c.args.keys.name.now c.in_default.ensures.found.absent.0 version.encodes c.in_default.ensures.found.absent.1 k is)

pub returns-in_default-clause-answers : goal.returns-in_default-clause-answers
returns-in_default-clause-answers g c = λ volume of.
    let self = c.args.self.now in
    let since = c.in_default.ensures.unchanged in
    source_since (g.L.Look.page_state self.look) (g.L.Look.page_state c.known_index.new.look) (g.L.Look.words self.look) (g.L.Look.words c.known_index.new.look) self.page self.known c.known_index.new.known self.cursor self.place self.last.0 self.last.1 volume since.page_state since.words c.in_default.ensures.known of

pub numbers_within-requires-clause-tree : goal.numbers_within-requires-clause-tree
numbers_within-requires-clause-tree g c =
    let self = c.args.self.now in
    let s = g.L.Look.page_state c.known_index.new.look in
    let w = g.L.Look.words c.known_index.new.look in
    let since = c.in-Some.ensures.unchanged in
    let version = version_since (g.L.Look.page_state self.look) s (g.L.Look.words self.look) w self.page c.requires.0 since.page_state since.words c.requires.1.version in
    subst (IsTree s w) (sym (c.in-Some.ensures.found.root nowhere)) (entry_tree s w (contents_of (w self.page)) c.in-Some.index.place nowhere version.in_hand c.in-Some.ensures.found.named.in_range)

pub numbers_within-requires-clause-long : goal.numbers_within-requires-clause-long
numbers_within-requires-clause-long g c =
    let self = c.args.self.now in
    let s = g.L.Look.page_state c.known_index.new.look in
    let w = g.L.Look.words c.known_index.new.look in
    let since = c.in-Some.ensures.unchanged in
    let version = version_since (g.L.Look.page_state self.look) s (g.L.Look.words self.look) w self.page c.requires.0 since.page_state since.words c.requires.1.version in
    subst (λ (r : ℕ). AreLong (pairs w r)) (sym (c.in-Some.ensures.found.root nowhere))
    (keys_long w (contents_of (w self.page)) c.requires.0 c.args.keys.name.now c.in-Some.index.place nowhere version.encodes c.in-Some.ensures.found.named)

pub returns-in_err-numbers_within-clause-keeps : goal.returns-in_err-numbers_within-clause-keeps
returns-in_err-numbers_within-clause-keeps g c = first_keeps _ _ _ c.numbers_within.ensures.first

pub returns-clause-keeps : goal.returns-clause-keeps
returns-clause-keeps g c = first_keeps _ _ _ c.numbers_within.ensures.first

pub returns-in_err-numbers_within-clause-only : goal.returns-in_err-numbers_within-clause-only
returns-in_err-numbers_within-clause-only g c = λ volume of.
    let self = c.args.self.now in
    let w = g.L.Look.words c.known_index.new.look in
    let low = c.args.keys.low.now in
    let high = option_copied c.args.keys.high in
    let since = c.in-Some.ensures.unchanged in
    let version = version_since (g.L.Look.page_state self.look) (g.L.Look.page_state c.known_index.new.look) (g.L.Look.words self.look) w self.page volume since.page_state since.words of.version in
    first_only w (contents_of (w self.page)) volume c.args.keys.name.now c.in-Some.index.place nowhere version.encodes c.in-Some.ensures.found.named version.sound low high
    c.args.found.now.items c.numbers_within.new.found.items
    (subst (λ (r : ℕ). HasFirst c.args.found.now.items (numbers_to (pairs_from (pairs w r) low false) high) c.numbers_within.new.found.items) (c.in-Some.ensures.found.root nowhere) c.numbers_within.ensures.first)

pub returns-clause-only : goal.returns-clause-only
returns-clause-only g c = λ volume of.
    let self = c.args.self.now in
    let w = g.L.Look.words c.known_index.new.look in
    let low = c.args.keys.low.now in
    let high = option_copied c.args.keys.high in
    let since = c.in-Some.ensures.unchanged in
    let version = version_since (g.L.Look.page_state self.look) (g.L.Look.page_state c.known_index.new.look) (g.L.Look.words self.look) w self.page volume since.page_state since.words of.version in
    first_only w (contents_of (w self.page)) volume c.args.keys.name.now c.in-Some.index.place nowhere version.encodes c.in-Some.ensures.found.named version.sound low high
    c.args.found.now.items c.numbers_within.new.found.items
    (subst (λ (r : ℕ). HasFirst c.args.found.now.items (numbers_to (pairs_from (pairs w r) low false) high) c.numbers_within.new.found.items) (c.in-Some.ensures.found.root nowhere) c.numbers_within.ensures.first)

pub returns-clause-has : goal.returns-clause-has
returns-clause-has g c = λ volume of k is within.
    let self = c.args.self.now in
    let s = g.L.Look.page_state c.known_index.new.look in
    let w = g.L.Look.words c.known_index.new.look in
    let contents = contents_of (w self.page) in
    let name = c.args.keys.name.now in
    let low = c.args.keys.low.now in
    let high = option_copied c.args.keys.high in
    let before = c.args.found.now.items in
    let since = c.in-Some.ensures.unchanged in
    let version = version_since (g.L.Look.page_state self.look) s (g.L.Look.words self.look) w self.page volume since.page_state since.words of.version in
    let all = get_or contents.entries c.in-Some.index.place nowhere in
    let rising = tree_rising s w all.root (entry_tree s w contents c.in-Some.index.place nowhere version.in_hand c.in-Some.ensures.found.named.in_range) in
    let there = range_has w contents volume name c.in-Some.index.place nowhere version.encodes c.in-Some.ensures.found.named version.sound low high rising k is within in
    let new = subst (λ (r : ℕ). Contains (numbers_to (pairs_from (pairs w r) low false) high) is.node) (sym (c.in-Some.ensures.found.root nowhere)) there in
    subst (λ (l : List ℕ). Contains l is.node) (sym c.in_ok-numbers_within.ensures.found)
    (Contains-append_right before (numbers_to (pairs_from (pairs w c.in-Some.index.root) low false) high) is.node new)

pub returns-in_err-numbers_within-clause-answers : goal.returns-in_err-numbers_within-clause-answers
returns-in_err-numbers_within-clause-answers g c = λ volume of.
    let self = c.args.self.now in
    let first = c.in-Some.ensures.unchanged in
    let last = c.numbers_within.ensures.unchanged in
    source_since (g.L.Look.page_state self.look) (g.L.Look.page_state c.numbers_within.new.look) (g.L.Look.words self.look) (g.L.Look.words c.numbers_within.new.look) self.page self.known c.known_index.new.known self.cursor self.place self.last.0 self.last.1 volume
    (last.page_state ∙ first.page_state) (last.words ∙ first.words) (subst (λ (u : ℕ → ℕ → ℕ). IsKnown (contents_of (u self.page)).entries c.known_index.new.known) (sym last.words) c.in-Some.ensures.known) of

pub returns-clause-answers : goal.returns-clause-answers
returns-clause-answers g c = λ volume of.
    let self = c.args.self.now in
    let first = c.in-Some.ensures.unchanged in
    let last = c.numbers_within.ensures.unchanged in
    source_since (g.L.Look.page_state self.look) (g.L.Look.page_state c.numbers_within.new.look) (g.L.Look.words self.look) (g.L.Look.words c.numbers_within.new.look) self.page self.known c.known_index.new.known self.cursor self.place self.last.0 self.last.1 volume
    (last.page_state ∙ first.page_state) (last.words ∙ first.words) (subst (λ (u : ℕ → ℕ → ℕ). IsKnown (contents_of (u self.page)).entries c.known_index.new.known) (sym last.words) c.in-Some.ensures.known) of
