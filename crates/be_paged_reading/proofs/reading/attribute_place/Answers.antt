use Rattle.std.proofs.Common.{◌∙◌, ℕ, List, subst}
use Rattle.be_tree_reading.specs.Key.{payload_at}
use Rattle.be_tree_reading.specs.Page.{item_at}
use Rattle.be_tree_reading.specs.Tree.{pairs}
use Rattle.be_paged_reading.specs.Place.{IsFoundAt}
use Rattle.be_paged_reading.proofs.CatalogPairs.FactValues.{attribute_there}
use Rattle.be_paged_reading.proofs.CatalogPairs.Places.{found_there, place_found}
use Rattle.be_paged_reading.proofs.reading.attribute_place.Goals as goal

pub returns-clause-there : goal.returns-clause-there
returns-clause-there g c = λ nodes catalog.
    let w = g.L.Look.words c.args.look.now in
    let key = c.deref.result.now in
    found_there c.find_place.result (λ (at : ℕ × ℕ). (item_at (w at.0) at.1).payload) (payload_at (pairs w c.args.catalog) key) c.find_place.ensures.none c.find_place.ensures.some
    ∙ attribute_there (pairs w c.args.catalog) nodes c.args.node c.args.name.now key catalog c.ranges.node.fits c.catalog_key.ensures.valid (c.deref.ensures.0 ∙ c.catalog_key.ensures.key)

pub returns-clause-found : goal.returns-clause-found
returns-clause-found g c =
    let s = g.L.Look.page_state c.find_place.new.look in
    let w = g.L.Look.words c.find_place.new.look in
    subst (λ (k : List ℕ). IsFoundAt s w c.args.catalog k c.find_place.result) (c.deref.ensures.0 ∙ c.catalog_key.ensures.key)
    (place_found (g.L.Look.page_state c.args.look.now) s (g.L.Look.words c.args.look.now) w c.args.catalog c.deref.result.now c.find_place.result
    c.find_place.ensures.unchanged.page_state c.find_place.ensures.unchanged.words c.find_place.ensures.none c.find_place.ensures.some c.find_place.ensures.readable c.find_place.ensures.in_page c.find_place.ensures.fits)
