use Rattle.std.proofs.Common.{ℕ, ◌∙◌, ap, sym, List, true}
use Rattle.std.specs.Option.{option_map}
use Rattle.be_tree_reading.specs.Cursor.{remaining}
use Rattle.be_tree_reading.specs.Range.{pairs_from}
use Rattle.be_tree_reading.specs.Tree.{pairs}
use Rattle.be_tree_reading.proofs.Trees.{tree_rising}
use Rattle.be_paged_reading.specs.Reading.{front_of_node}
use Rattle.be_paged_reading.proofs.Asking.Walks.{first_name}
use Rattle.be_paged_reading.proofs.CatalogPairs.Places.{place_walked}
use Rattle.be_paged_reading.proofs.attributes.first_attribute.Goals as goal

pub returns-clause-name : goal.returns-clause-name
returns-clause-name g c = λ nodes catalog valid.
    let v = g.L.Look.words c.args.look.now in
    let node = c.args.node in
    let rising = tree_rising (g.L.Look.page_state c.args.look.now) v c.args.catalog c.requires.tree in
    let now = front_of_node node (remaining (g.L.Look.words c.seek.new.look) c.seek.new.self) in
    let start = ap (λ (w : ℕ → ℕ → ℕ). front_of_node node (remaining w c.seek.new.self)) c.seek.ensures.unchanged.words ∙ ap (front_of_node node) c.seek.ensures.remaining
    ∙ ap (λ (k : List ℕ). front_of_node node (pairs_from (pairs v c.args.catalog) k true)) c.to_be_bytes.ensures in
    first_name (pairs v c.args.catalog) nodes node c.ranges.node.fits rising catalog valid (option_map (λ (found : List ℕ × (ℕ × ℕ)). found.0) c.next_name.result) now start c.next_name.ensures.name c.next_name.ensures.none

pub returns-clause-place : goal.returns-clause-place
returns-clause-place g c =
    let s = g.L.Look.page_state c.seek.new.look in
    let v = g.L.Look.words c.seek.new.look in
    let start = ap (λ (w : ℕ → ℕ → ℕ). remaining w c.seek.new.self) c.seek.ensures.unchanged.words ∙ c.seek.ensures.remaining
    ∙ ap (λ (w : ℕ → ℕ → ℕ). pairs_from (pairs w c.args.catalog) c.to_be_bytes.result true) (sym c.seek.ensures.unchanged.words) in
    place_walked s (g.L.Look.page_state c.next_name.new.look) v (g.L.Look.words c.next_name.new.look) c.args.catalog c.args.node c.to_be_bytes.result true (remaining v c.seek.new.self) c.next_name.result
    c.next_name.ensures.unchanged.page_state c.next_name.ensures.unchanged.words start c.next_name.ensures.item c.next_name.ensures.beyond c.next_name.ensures.fits
