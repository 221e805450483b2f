use Rattle.std.proofs.Common.{ℕ, false, take, ◌∙◌, ap, sym, Ok}
use Rattle.std.specs.Int.{to_be_bytes, w64}
use Rattle.be_tree_reading.specs.Range.{pairs_from}
use Rattle.be_tree_reading.specs.Tree.{pairs}
use Rattle.be_paged_reading.specs.Nodes.{marked}
use Rattle.be_paged_reading.proofs.CatalogPairs.Marks.{nodes_marked}
use Rattle.be_paged_reading.proofs.reading.nodes.Goals as goal

pub returns-clause-answer : goal.returns-clause-answer
returns-clause-answer g c = λ volume version.
    let words = g.L.Look.words c.args.look.now in
    let low = c.args.from in
    ap Ok (sym (c.in_ok-list_nodes.ensures.list
    ∙ ap (λ (w : ℕ → ℕ → ℕ). take c.args.most (marked (pairs_from (pairs w c.word-catalog.result) (to_be_bytes w64 low) false))) c.word-catalog.ensures.words
    ∙ ap (λ (r : ℕ). take c.args.most (marked (pairs_from (pairs words r) (to_be_bytes w64 low) false))) c.word-catalog.ensures.value
    ∙ nodes_marked (g.L.Look.page_state c.args.look.now) words c.args.version_page volume low c.args.most version c.ranges.from.fits))
