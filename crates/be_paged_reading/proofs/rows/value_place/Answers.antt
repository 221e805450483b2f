use Rattle.std.proofs.Common.{◌∙◌, arith}
use Rattle.be_paged_reading.specs.Cells.{name_in}
use Rattle.be_paged_reading.proofs.Reported.{item_of_place, key_length, payload_had, value_missing}
use Rattle.be_paged_reading.proofs.rows.value_place.Goals as goal

pub returns-clause-item : goal.returns-clause-item
returns-clause-item g c =
    item_of_place (g.L.Look.page_state c.next_place.new.look) (g.L.Look.words c.next_place.new.look) c.args.catalog c.deref.result.now c.next_place.result c.next_place.ensures.found

pub returns-clause-some : goal.returns-clause-some
returns-clause-some g c = λ nodes catalog valid.
    let is = c.deref.ensures.0 ∙ c.held_key-key.ensures.key in
    payload_had (g.L.Look.page_state c.next_place.new.look) (g.L.Look.words c.args.look.now) (g.L.Look.words c.next_place.new.look) c.args.catalog nodes c.args.node (name_in c.args.name.now) c.deref.result.now
    c.next_place.result catalog c.ranges.node.fits (omega (arith, key_length c.args.node (name_in c.args.name.now) c.held_key-key.result.items c.held_key-key.ensures.key, c.if-len-le8.false, c.len.ensures)) is valid
    c.next_place.ensures.unchanged.words c.next_place.ensures.found

pub returns-clause-none : goal.returns-clause-none
returns-clause-none g c = λ nodes catalog valid.
    let is = c.deref.ensures.0 ∙ c.held_key-key.ensures.key in
    value_missing (g.L.Look.page_state c.next_place.new.look) (g.L.Look.words c.args.look.now) (g.L.Look.words c.next_place.new.look) c.args.catalog nodes c.args.node (name_in c.args.name.now) c.deref.result.now
    c.next_place.result catalog c.ranges.node.fits (omega (arith, key_length c.args.node (name_in c.args.name.now) c.held_key-key.result.items c.held_key-key.ensures.key, c.if-len-le8.false, c.len.ensures)) is
    c.next_place.ensures.unchanged.words c.next_place.ensures.found
