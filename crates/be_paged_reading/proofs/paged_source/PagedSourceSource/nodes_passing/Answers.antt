use Rattle.std.proofs.Common.{ℕ, List, [], false, inl, sym, subst, ◌∙◌, get_or}
use Rattle.std.specs.List.{Contains}
use Rattle.std.specs.Option.{option_copied}
use Rattle.std.proofs.lemmas.List.Elements.{Contains-append_right}
use Rattle.be_tree_reading.specs.Range.{HasFirst, pairs_from}
use Rattle.be_tree_reading.specs.Tree.{IsTree, pairs}
use Rattle.be_tree_reading.proofs.Trees.{tree_rising}
use Rattle.be_value.specs.declared.values.Kind.TheVariants as kinds
use Rattle.be_query.specs.Grammar.{Leaf}
use Rattle.be_plan.specs.Walk.{HasOnlyTrue}
use Rattle.be_volume.specs.Volume.{State}
use Rattle.be_paged_reading.specs.Entry.{Entry}
use Rattle.be_paged_reading.specs.Page.{contents_of}
use Rattle.be_paged_reading.specs.Source.{IsKnown, SourceOf}
use Rattle.be_paged_reading.specs.Texts.{AreTexts, nodes_passing_to}
use Rattle.be_paged_reading.proofs.Stored.PageIndices.{source_since}
use Rattle.be_paged_reading.proofs.Asking.RangeNodes.{first_keeps}
use Rattle.be_paged_reading.proofs.Asking.PassingNodes.{keys_texts, passing_first, passing_has}
use Rattle.be_paged_reading.proofs.Asking.SourceKeys.{entry_tree}
use Rattle.be_paged_reading.proofs.Versions.{version_since}
use Rattle.be_paged_reading.proofs.paged_source.PagedSourceSource.nodes_passing.Given.{Over}
use Rattle.be_paged_reading.proofs.paged_source.PagedSourceSource.nodes_passing.Goals as goal
use Rattle.be_paged_reading.proofs.paged_source.PagedSourceSource.nodes_passing.Goals.{After-nodes_passing}

nowhere : Entry
nowhere = record { name = []; kind = kinds.Cstr; root = 0 }

pub known_index-requires : goal.known_index-requires
known_index-requires g c = record { version = (c.requires.0, c.requires.1.version); known = c.requires.1.known_is }

pub returns-in_default-clause-keeps : goal.returns-in_default-clause-keeps
returns-in_default-clause-keeps g c = λ n h. h

pub returns-in_default-clause-only : goal.returns-in_default-clause-only
returns-in_default-clause-only g c = λ volume of n h. inl h

pub returns-in_default-clause-has : goal.returns-in_default-clause-has
returns-in_default-clause-has g c = λ e. absurd (cc e)

pub returns-in_default-clause-answers : goal.returns-in_default-clause-answers
returns-in_default-clause-answers g c = λ volume of.
    let self = c.args.self.now in
    let since = c.in_default.ensures.unchanged in
    source_since (g.L.Look.page_state self.look) (g.L.Look.page_state c.known_index.new.look) (g.L.Look.words self.look) (g.L.Look.words c.known_index.new.look) self.page self.known c.known_index.new.known self.cursor self.place self.last.0 self.last.1 volume since.page_state since.words c.in_default.ensures.known of

pub returns-then-not-has_texts-clause-keeps : goal.returns-then-not-has_texts-clause-keeps
returns-then-not-has_texts-clause-keeps g c = λ n h. h

pub returns-then-not-has_texts-clause-only : goal.returns-then-not-has_texts-clause-only
returns-then-not-has_texts-clause-only g c = λ volume of n h. inl h

pub returns-then-not-has_texts-clause-has : goal.returns-then-not-has_texts-clause-has
returns-then-not-has_texts-clause-has g c = λ e. absurd (cc e)

pub returns-then-not-has_texts-clause-answers : goal.returns-then-not-has_texts-clause-answers
returns-then-not-has_texts-clause-answers g c = λ volume of.
    let self = c.args.self.now in
    let since = c.in-Some.ensures.unchanged in
    source_since (g.L.Look.page_state self.look) (g.L.Look.page_state c.known_index.new.look) (g.L.Look.words self.look) (g.L.Look.words c.known_index.new.look) self.page self.known c.known_index.new.known self.cursor self.place self.last.0 self.last.1 volume since.page_state since.words c.in-Some.ensures.known of

pub nodes_passing-requires-clause-tree : goal.nodes_passing-requires-clause-tree
nodes_passing-requires-clause-tree g c =
    let self = c.args.self.now in
    let s = g.L.Look.page_state c.known_index.new.look in
    let w = g.L.Look.words c.known_index.new.look in
    let since = c.in-Some.ensures.unchanged in
    let version = version_since (g.L.Look.page_state self.look) s (g.L.Look.words self.look) w self.page c.requires.0 since.page_state since.words c.requires.1.version in
    subst (IsTree s w) (sym (c.in-Some.ensures.found.root nowhere)) (entry_tree s w (contents_of (w self.page)) c.in-Some.index.place nowhere version.in_hand c.in-Some.ensures.found.named.in_range)

pub nodes_passing-requires-clause-texts : goal.nodes_passing-requires-clause-texts
nodes_passing-requires-clause-texts g c =
    let self = c.args.self.now in
    let s = g.L.Look.page_state c.known_index.new.look in
    let w = g.L.Look.words c.known_index.new.look in
    let since = c.in-Some.ensures.unchanged in
    let version = version_since (g.L.Look.page_state self.look) s (g.L.Look.words self.look) w self.page c.requires.0 since.page_state since.words c.requires.1.version in
    let kind = sym (c.in-Some.ensures.found.kind nowhere) ∙ c.has_texts.ensures c.if-not-has_texts.false in
    subst (λ (r : ℕ). AreTexts (pairs w r)) (sym (c.in-Some.ensures.found.root nowhere))
    (keys_texts w (contents_of (w self.page)) c.requires.0 c.args.keys.name.now c.in-Some.index.place nowhere version.encodes c.in-Some.ensures.found.named version.sound kind)

-- What the call added.
only : (g : Over) (c : After-nodes_passing g) (volume : State)
    → SourceOf (g.L.Look.page_state c.args.self.now.look) (g.L.Look.words c.args.self.now.look) c.args.self.now.page c.args.self.now.known c.args.self.now.cursor c.args.self.now.place c.args.self.now.last.0 c.args.self.now.last.1 volume
    → HasOnlyTrue volume (Leaf c.args.keys.name.now c.args.test.now.0 c.args.test.now.1) c.args.keys.name.now c.args.keys.low.now (option_copied c.args.keys.high) c.args.found.now.items c.nodes_passing.new.found.items
only g c volume of =
    let self = c.args.self.now in
    let w = g.L.Look.words c.known_index.new.look in
    let low = c.args.keys.low.now in
    let high = option_copied c.args.keys.high in
    let op = c.args.test.now.0 in
    let literal = c.args.test.now.1 in
    let since = c.in-Some.ensures.unchanged in
    let version = version_since (g.L.Look.page_state self.look) (g.L.Look.page_state c.known_index.new.look) (g.L.Look.words self.look) w self.page volume since.page_state since.words of.version in
    let kind = sym (c.in-Some.ensures.found.kind nowhere) ∙ c.has_texts.ensures c.if-not-has_texts.false in
    passing_first w (contents_of (w self.page)) volume c.args.keys.name.now c.in-Some.index.place nowhere version.encodes c.in-Some.ensures.found.named version.sound kind op literal low high
    c.args.found.now.items c.nodes_passing.new.found.items
    (subst (λ (r : ℕ). HasFirst c.args.found.now.items (nodes_passing_to op literal (pairs_from (pairs w r) low false) high) c.nodes_passing.new.found.items) (c.in-Some.ensures.found.root nowhere) c.nodes_passing.ensures.first)

answers : (g : Over) (c : After-nodes_passing g) (volume : State)
    → SourceOf (g.L.Look.page_state c.args.self.now.look) (g.L.Look.words c.args.self.now.look) c.args.self.now.page c.args.self.now.known c.args.self.now.cursor c.args.self.now.place c.args.self.now.last.0 c.args.self.now.last.1 volume
    → SourceOf (g.L.Look.page_state c.nodes_passing.new.look) (g.L.Look.words c.nodes_passing.new.look) c.args.self.now.page c.known_index.new.known c.args.self.now.cursor c.args.self.now.place c.args.self.now.last.0 c.args.self.now.last.1 volume
answers g c volume of =
    let self = c.args.self.now in
    let first = c.in-Some.ensures.unchanged in
    let last = c.nodes_passing.ensures.unchanged in
    source_since (g.L.Look.page_state self.look) (g.L.Look.page_state c.nodes_passing.new.look) (g.L.Look.words self.look) (g.L.Look.words c.nodes_passing.new.look) self.page self.known c.known_index.new.known self.cursor self.place self.last.0 self.last.1 volume
    (last.page_state ∙ first.page_state) (last.words ∙ first.words) (subst (λ (u : ℕ → ℕ → ℕ). IsKnown (contents_of (u self.page)).entries c.known_index.new.known) (sym last.words) c.in-Some.ensures.known) of

pub returns-in_err-nodes_passing-clause-keeps : goal.returns-in_err-nodes_passing-clause-keeps
returns-in_err-nodes_passing-clause-keeps g c = first_keeps _ _ _ c.nodes_passing.ensures.first

pub returns-clause-keeps : goal.returns-clause-keeps
returns-clause-keeps g c = first_keeps _ _ _ c.nodes_passing.ensures.first

pub returns-in_err-nodes_passing-clause-only : goal.returns-in_err-nodes_passing-clause-only
returns-in_err-nodes_passing-clause-only g c = only g (goal.at.returns-in_err-nodes_passing-clause-only g c).After-nodes_passing

pub returns-clause-only : goal.returns-clause-only
returns-clause-only g c = only g (goal.at.returns-clause-only g c).After-nodes_passing

pub returns-clause-has : goal.returns-clause-has
returns-clause-has g c = λ _ volume of k is within holds.
    let self = c.args.self.now in
    let s = g.L.Look.page_state c.known_index.new.look in
    let w = g.L.Look.words c.known_index.new.look in
    let contents = contents_of (w self.page) in
    let name = c.args.keys.name.now in
    let low = c.args.keys.low.now in
    let high = option_copied c.args.keys.high in
    let op = c.args.test.now.0 in
    let literal = c.args.test.now.1 in
    let before = c.args.found.now.items in
    let since = c.in-Some.ensures.unchanged in
    let version = version_since (g.L.Look.page_state self.look) s (g.L.Look.words self.look) w self.page volume since.page_state since.words of.version in
    let kind = sym (c.in-Some.ensures.found.kind nowhere) ∙ c.has_texts.ensures c.if-not-has_texts.false in
    let all = get_or contents.entries c.in-Some.index.place nowhere in
    let rising = tree_rising s w all.root (entry_tree s w contents c.in-Some.index.place nowhere version.in_hand c.in-Some.ensures.found.named.in_range) in
    let there = passing_has w contents volume name c.in-Some.index.place nowhere version.encodes c.in-Some.ensures.found.named version.sound kind op literal low high rising k is within holds in
    let new = subst (λ (r : ℕ). Contains (nodes_passing_to op literal (pairs_from (pairs w r) low false) high) is.node) (sym (c.in-Some.ensures.found.root nowhere)) there in
    subst (λ (l : List ℕ). Contains l is.node) (sym c.in_ok-nodes_passing.ensures.found)
    (Contains-append_right before (nodes_passing_to op literal (pairs_from (pairs w c.in-Some.index.root) low false) high) is.node new)

pub returns-clause-none : goal.returns-clause-none
returns-clause-none g c = λ e. absurd (cc e)

pub returns-in_err-nodes_passing-clause-answers : goal.returns-in_err-nodes_passing-clause-answers
returns-in_err-nodes_passing-clause-answers g c = answers g (goal.at.returns-in_err-nodes_passing-clause-answers g c).After-nodes_passing

pub returns-clause-answers : goal.returns-clause-answers
returns-clause-answers g c = answers g (goal.at.returns-clause-answers g c).After-nodes_passing
