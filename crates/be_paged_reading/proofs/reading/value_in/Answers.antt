use Rattle.std.proofs.Common.{◌≡◌, ℕ, List, Some, None, ap, sym, subst, ◌∙◌}
use Rattle.std.specs.Option.{IfSome}
use Rattle.be_tree_reading.specs.Key.{payload_at}
use Rattle.be_tree_reading.specs.Page.{item_at}
use Rattle.be_tree_reading.specs.Tree.{pairs}
use Rattle.be_paged_reading.specs.Place.{IsFoundAt}
use Rattle.be_paged_reading.proofs.CatalogPairs.FactValues.{value_absent, value_read}
use Rattle.be_paged_reading.proofs.reading.value_in.Goals as goal

pub place_of-requires-clause-known : goal.place_of-requires-clause-known
place_of-requires-clause-known g c =
    subst (λ (k : List ℕ). IfSome c.args.known (IsFoundAt (g.L.Look.page_state c.args.look.now) (g.L.Look.words c.args.look.now) c.args.catalog k)) (sym (c.deref.ensures.0 ∙ c.catalog_key-key.ensures.key)) c.requires.known

pub value_at-requires-clause-readable : goal.value_at-requires-clause-readable
value_at-requires-clause-readable g c = c.in_ok-page.ensures.found.item.0

pub value_at-requires-clause-in_page : goal.value_at-requires-clause-in_page
value_at-requires-clause-in_page g c = c.in_ok-page.ensures.found.item.1.0

pub value_at-requires-clause-item : goal.value_at-requires-clause-item
value_at-requires-clause-item g c = c.in_ok-page.ensures.found.item.1.1

pub returns-in_err-page-clause-value : goal.returns-in_err-page-clause-value
returns-in_err-page-clause-value g c = λ nodes catalog valid.
    let key = c.deref.result.now in
    c.from_residual.ensures
    ∙ value_absent (pairs (g.L.Look.words c.args.look.now) c.args.catalog) nodes c.args.node c.args.name.now key catalog c.ranges.node.fits c.catalog_key-key.ensures.valid
    (c.deref.ensures.0 ∙ c.catalog_key-key.ensures.key)
    (subst (λ (w : ℕ → ℕ → ℕ). payload_at (pairs w c.args.catalog) key ≡ None) c.in_err-page.ensures.unchanged.words c.in_err-page.ensures.found)

pub returns-clause-value : goal.returns-clause-value
returns-clause-value g c = λ nodes catalog valid.
    let words = g.L.Look.words c.args.look.now in
    let key = c.deref.result.now in
    value_read (pairs words c.args.catalog) nodes c.args.node c.args.name.now key (item_at (words c.in_ok-page.page) c.in_ok-page.at).payload c.value_at.result catalog valid c.ranges.node.fits
    c.catalog_key-key.ensures.valid (c.deref.ensures.0 ∙ c.catalog_key-key.ensures.key)
    (subst (λ (w : ℕ → ℕ → ℕ). payload_at (pairs w c.args.catalog) key ≡ Some (item_at (w c.in_ok-page.page) c.in_ok-page.at).payload) c.in_ok-page.ensures.unchanged.words c.in_ok-page.ensures.found.there)
    (λ v is same. c.value_at.ensures.value v is (ap (λ (w : ℕ → ℕ → ℕ). (item_at (w c.in_ok-page.page) c.in_ok-page.at).payload) c.in_ok-page.ensures.unchanged.words ∙ same))
