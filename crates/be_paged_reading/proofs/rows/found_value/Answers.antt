use Rattle.std.proofs.Common.{◌∙◌, arith}
use Rattle.be_paged_reading.specs.Cells.{name_in}
use Rattle.be_paged_reading.proofs.CatalogPairs.Places.{place_found}
use Rattle.be_paged_reading.proofs.Reported.{item_of_place, key_length, payload_had, value_missing}
use Rattle.be_paged_reading.proofs.rows.found_value.Goals as goal

pub returns-clause-item : goal.returns-clause-item
returns-clause-item g c =
    item_of_place (g.L.Look.page_state c.find_place.new.look) (g.L.Look.words c.find_place.new.look) c.args.catalog c.deref.result.now c.find_place.result
    (place_found (g.L.Look.page_state c.args.look.now) (g.L.Look.page_state c.find_place.new.look) (g.L.Look.words c.args.look.now) (g.L.Look.words c.find_place.new.look) c.args.catalog c.deref.result.now c.find_place.result
    c.find_place.ensures.unchanged.page_state c.find_place.ensures.unchanged.words c.find_place.ensures.none c.find_place.ensures.some c.find_place.ensures.readable c.find_place.ensures.in_page c.find_place.ensures.fits)

pub returns-clause-some : goal.returns-clause-some
returns-clause-some g c = λ nodes catalog valid.
    let is = c.deref.ensures.0 ∙ c.held_key-key.ensures.key in
    payload_had (g.L.Look.page_state c.find_place.new.look) (g.L.Look.words c.args.look.now) (g.L.Look.words c.find_place.new.look) c.args.catalog nodes c.args.node (name_in c.args.name.now) c.deref.result.now
    c.find_place.result catalog c.ranges.node.fits (omega (arith, key_length c.args.node (name_in c.args.name.now) c.held_key-key.result.items c.held_key-key.ensures.key, c.if-len-le8.false, c.len.ensures)) is valid
    c.find_place.ensures.unchanged.words
    (place_found (g.L.Look.page_state c.args.look.now) (g.L.Look.page_state c.find_place.new.look) (g.L.Look.words c.args.look.now) (g.L.Look.words c.find_place.new.look) c.args.catalog c.deref.result.now c.find_place.result
    c.find_place.ensures.unchanged.page_state c.find_place.ensures.unchanged.words c.find_place.ensures.none c.find_place.ensures.some c.find_place.ensures.readable c.find_place.ensures.in_page c.find_place.ensures.fits)

pub returns-clause-none : goal.returns-clause-none
returns-clause-none g c = λ nodes catalog valid.
    let is = c.deref.ensures.0 ∙ c.held_key-key.ensures.key in
    value_missing (g.L.Look.page_state c.find_place.new.look) (g.L.Look.words c.args.look.now) (g.L.Look.words c.find_place.new.look) c.args.catalog nodes c.args.node (name_in c.args.name.now) c.deref.result.now
    c.find_place.result catalog c.ranges.node.fits (omega (arith, key_length c.args.node (name_in c.args.name.now) c.held_key-key.result.items c.held_key-key.ensures.key, c.if-len-le8.false, c.len.ensures)) is
    c.find_place.ensures.unchanged.words
    (place_found (g.L.Look.page_state c.args.look.now) (g.L.Look.page_state c.find_place.new.look) (g.L.Look.words c.args.look.now) (g.L.Look.words c.find_place.new.look) c.args.catalog c.deref.result.now c.find_place.result
    c.find_place.ensures.unchanged.page_state c.find_place.ensures.unchanged.words c.find_place.ensures.none c.find_place.ensures.some c.find_place.ensures.readable c.find_place.ensures.in_page c.find_place.ensures.fits)
