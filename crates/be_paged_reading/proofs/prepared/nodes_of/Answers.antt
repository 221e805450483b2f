use Rattle.std.proofs.Common.{ℕ, List, [], false, sym, subst, get_or}
use Rattle.std.specs.List.{Contains}
use Rattle.std.specs.Option.{option_copied}
use Rattle.std.proofs.lemmas.List.Elements.{Contains-append_right}
use Rattle.be_tree_reading.specs.Range.{AreLong, HasFirst, numbers_to, pairs_from}
use Rattle.be_tree_reading.specs.Tree.{IsTree, pairs}
use Rattle.be_tree_reading.proofs.Trees.{tree_rising}
use Rattle.be_value.specs.declared.values.Kind.TheVariants as kinds
use Rattle.be_paged_reading.specs.Entry.{Entry}
use Rattle.be_paged_reading.specs.Page.{contents_of}
use Rattle.be_paged_reading.proofs.Asking.RangeNodes.{first_only, keys_long, range_has}
use Rattle.be_paged_reading.proofs.Asking.SourceKeys.{entry_tree}
use Rattle.be_paged_reading.proofs.prepared.nodes_of.Goals as goal

nowhere : Entry
nowhere = record { name = []; kind = kinds.Cstr; root = 0 }

pub numbers_within-requires-clause-tree : goal.numbers_within-requires-clause-tree
numbers_within-requires-clause-tree g c =
    let s = g.L.Look.page_state c.args.look.now in
    let w = g.L.Look.words c.args.look.now in
    let version = c.requires.version.1 in
    subst (IsTree s w) (sym (c.requires.index.root nowhere)) (entry_tree s w (contents_of (w c.args.version_page)) c.args.index.place nowhere version.in_hand c.requires.index.named.in_range)

pub numbers_within-requires-clause-long : goal.numbers_within-requires-clause-long
numbers_within-requires-clause-long g c =
    let w = g.L.Look.words c.args.look.now in
    let version = c.requires.version.1 in
    subst (λ (r : ℕ). AreLong (pairs w r)) (sym (c.requires.index.root nowhere))
    (keys_long w (contents_of (w c.args.version_page)) c.requires.version.0 c.args.keys.name.now c.args.index.place nowhere version.encodes c.requires.index.named)

pub returns-in_err-numbers_within-clause-only : goal.returns-in_err-numbers_within-clause-only
returns-in_err-numbers_within-clause-only g c = λ volume version.
    let w = g.L.Look.words c.args.look.now in
    let low = c.args.keys.low.now in
    let high = option_copied c.args.keys.high in
    first_only w (contents_of (w c.args.version_page)) volume c.args.keys.name.now c.args.index.place nowhere version.encodes c.requires.index.named version.sound low high
    c.args.found.now.items c.numbers_within.new.found.items
    (subst (λ (r : ℕ). HasFirst c.args.found.now.items (numbers_to (pairs_from (pairs w r) low false) high) c.numbers_within.new.found.items) (c.requires.index.root nowhere) c.numbers_within.ensures.first)

pub returns-clause-only : goal.returns-clause-only
returns-clause-only g c = λ volume version.
    let w = g.L.Look.words c.args.look.now in
    let low = c.args.keys.low.now in
    let high = option_copied c.args.keys.high in
    first_only w (contents_of (w c.args.version_page)) volume c.args.keys.name.now c.args.index.place nowhere version.encodes c.requires.index.named version.sound low high
    c.args.found.now.items c.numbers_within.new.found.items
    (subst (λ (r : ℕ). HasFirst c.args.found.now.items (numbers_to (pairs_from (pairs w r) low false) high) c.numbers_within.new.found.items) (c.requires.index.root nowhere) c.numbers_within.ensures.first)

pub returns-clause-has : goal.returns-clause-has
returns-clause-has g c = λ volume version k is within.
    let s = g.L.Look.page_state c.args.look.now in
    let w = g.L.Look.words c.args.look.now in
    let contents = contents_of (w c.args.version_page) in
    let name = c.args.keys.name.now in
    let low = c.args.keys.low.now in
    let high = option_copied c.args.keys.high in
    let before = c.args.found.now.items in
    let all = get_or contents.entries c.args.index.place nowhere in
    let rising = tree_rising s w all.root (entry_tree s w contents c.args.index.place nowhere version.in_hand c.requires.index.named.in_range) in
    let there = range_has w contents volume name c.args.index.place nowhere version.encodes c.requires.index.named version.sound low high rising k is within in
    let new = subst (λ (r : ℕ). Contains (numbers_to (pairs_from (pairs w r) low false) high) is.node) (sym (c.requires.index.root nowhere)) there in
    subst (λ (l : List ℕ). Contains l is.node) (sym c.in_ok-numbers_within.ensures.found)
    (Contains-append_right before (numbers_to (pairs_from (pairs w c.args.index.root) low false) high) is.node new)
