use Rattle.std.proofs.Common.{◌≡◌, [], ◌∷◌, ◌+◌, Some, length, sym, subst, ◌∙◌, refl, rules}
use Rattle.std.specs.FinMap as fin
use Rattle.be_paged_building.specs.Building.{AreCollected, AreUpTo, IsLastName, IsTooLarge, pages_held}
use Rattle.be_paged_building.specs.Errors.{AttributeError}
use Rattle.be_paged_building.specs.Given.{with_held}
use Rattle.be_paged_building.proofs.Errors.{attribute_error, held_error, passed, refuses}
use Rattle.be_paged_building.proofs.Adding.{attribute_catalog, attribute_count, attribute_large, attribute_last, attribute_may, attribute_node, attribute_none, attribute_rising, attribute_sound, attribute_up}
use Rattle.be_paged_building.proofs.Counts.{hand_more}
use Rattle.be_paged_building.proofs.Indices.{place_collected, place_index, place_indexable, place_within}
use Rattle.be_paged_building.proofs.Room.{as_given, no_room, taken_stays}
use Rattle.be_paged_reading.specs.Catalog.{IsCatalog, catalog_key}
use Rattle.be_tree.specs.Building.{IsShort, pages_taken, pairs_given}
use Rattle.be_volume.specs.Maps.{attributes_of, with_attribute}
use Rattle.be_paged_building.proofs.building.VolumeBuilder.attribute.Goals as goal

pub returns-in_err-check_attribute-clause-refused : goal.returns-in_err-check_attribute-clause-refused
returns-in_err-check_attribute-clause-refused g c =
    let b = c.args.self.now in
    refuses b b (AttributeError b.volume.value b.node c.args.name.now c.args.value.now c.args.held) _ c.from_residual.result c.args.room.now c.args.room.now
    (passed c.from_residual.result c.in_err-check_attribute.field-0.0 _ (search rules) (attribute_error (g.R.Look.page_state c.args.room.now) (g.R.Look.words c.args.room.now) b b.volume.value c.args.name.now c.requires.builds
    c.args.value.now c.args.held c.in_err-check_attribute.field-0.0 c.in_err-check_attribute.ensures.why)) refl refl

pub returns-in_err-at-clause-refused : goal.returns-in_err-at-clause-refused
returns-in_err-at-clause-refused g c =
    let b = c.args.self.now in
    refuses b b (AttributeError b.volume.value b.node c.args.name.now c.args.value.now c.args.held) _ c.from_residual-in_err-at.result c.args.room.now c.args.room.now
    (passed c.from_residual-in_err-at.result c.in_err-at.field-0.0 _ (search rules) (held_error (g.R.Look.page_state c.args.room.now) (g.R.Look.words c.args.room.now) b b.volume.value c.args.name.now c.requires.builds
    c.args.value.now c.args.held c.in_err-at.field-0.0 c.in_ok-check_attribute.ensures.ok c.in_err-at.ensures.held c.in_err-at.ensures.why)) refl refl

pub push-requires-clause-rising : goal.push-requires-clause-rising
push-requires-clause-rising g c =
    let b = c.args.self.now in
    let key : c.deref.result.now ≡ catalog_key b.node c.args.name.now = c.deref.ensures.0 ∙ c.catalog_key-key.ensures.key in
    let paid = c.deref-2.ensures.0 ∙ c.payload_of.ensures.payload in
    attribute_rising (g.R.Look.page_state c.args.room.now) (g.R.Look.words c.args.room.now) b b.volume.value c.args.name.now c.args.value.now c.deref.result.now c.deref-2.result.now c.requires.builds
    c.in_ok-check_attribute.ensures.ok c.catalog_key-key.ensures.valid key paid

pub returns-in_err-push-clause-refused : goal.returns-in_err-push-clause-refused
returns-in_err-push-clause-refused g c =
    let b = c.args.self.now in
    let s = g.R.Look.page_state c.args.room.now in
    let w = g.R.Look.words c.args.room.now in
    let t = g.R.Look.page_state c.push.new.room in
    let key : c.deref.result.now ≡ catalog_key b.node c.args.name.now = c.deref.ensures.0 ∙ c.catalog_key-key.ensures.key in
    let paid = c.deref-2.ensures.0 ∙ c.payload_of.ensures.payload in
    no_room b _ (AttributeError b.volume.value b.node c.args.name.now c.args.value.now c.args.held) c.from_residual-in_err-push.result (g.R.Room.full c.push.new.room)
    (IsShort (length (pages_taken w b.catalog)) (length (pairs_given w b.catalog) + 1) s t)
    (IsTooLarge (with_held b.volume.value b.node c.args.name.now c.args.value.now c.args.held) (pages_held w b) s t) c.args.room.now c.push.new.room
    (attribute_large s w b b.volume.value c.args.name.now c.args.value.now c.deref.result.now c.deref-2.result.now c.requires.builds c.in_ok-check_attribute.ensures.ok c.catalog_key-key.ensures.valid key paid c.args.held t) (search rules)

pub add_key-requires-clause-place : goal.add_key-requires-clause-place
add_key-requires-clause-place g c =
    let b = c.args.self.now in
    place_within (g.R.Look.page_state c.args.room.now) (g.R.Look.words c.args.room.now) b b.volume.value c.args.name.now c.args.value.now c.requires.builds c.args.held c.in_ok-at.at c.in_ok-at.ensures.found

pub add_key-requires-clause-indexable : goal.add_key-requires-clause-indexable
add_key-requires-clause-indexable g c =
    let b = c.args.self.now in
    place_indexable (g.R.Look.page_state c.args.room.now) (g.R.Look.words c.args.room.now) b b.volume.value c.args.name.now c.args.value.now c.requires.builds c.args.held c.in_ok-at.at c.in_ok-at.ensures.found

pub returns-clause-may : goal.returns-clause-may
returns-clause-may g c =
    let b = c.args.self.now in
    let s = g.R.Look.page_state c.args.room.now in
    let w = g.R.Look.words c.args.room.now in
    let key : c.deref.result.now ≡ catalog_key b.node c.args.name.now = c.deref.ensures.0 ∙ c.catalog_key-key.ensures.key in
    let paid = c.deref-2.ensures.0 ∙ c.payload_of.ensures.payload in
    attribute_may s w b b.volume.value c.args.name.now c.args.value.now c.deref.result.now c.deref-2.result.now c.requires.builds c.in_ok-check_attribute.ensures.ok c.catalog_key-key.ensures.valid key paid c.args.held
    (place_index s w b b.volume.value c.args.name.now c.args.value.now c.requires.builds c.args.held c.in_ok-at.at c.in_ok-at.ensures.found)

pub returns-clause-ok : goal.returns-clause-ok
returns-clause-ok g c =
    let b = c.args.self.now in
    let volume = b.volume.value in
    let name = c.args.name.now in
    let value = c.args.value.now in
    let held = c.args.held in
    let k = c.deref.result.now in
    let p = c.deref-2.result.now in
    let s = g.R.Look.page_state c.args.room.now in
    let w = g.R.Look.words c.args.room.now in
    let builds = c.requires.builds in
    let take = c.in_ok-check_attribute.ensures.ok in
    let valid = c.catalog_key-key.ensures.valid in
    let key : k ≡ catalog_key b.node name = c.deref.ensures.0 ∙ c.catalog_key-key.ensures.key in
    let paid = c.deref-2.ensures.0 ∙ c.payload_of.ensures.payload in
    let gains = c.in_ok-push.ensures.gains in
    let nodes = with_attribute volume.nodes b.node name value in
    as_given (g.R.Look.page_state c.push.new.room) (g.R.Look.words c.push.new.room) _ (with_held volume b.node name value held) c.add_attribute.ensures (record {
      catalog = c.in_ok-push.ensures.builds;
      pairs = subst (λ xs. IsCatalog xs nodes) (sym gains.has_pairs) (attribute_catalog s w b volume name value k p builds take valid key paid);
      highest = subst (λ n. AreUpTo (catalog_key b.node n) (pairs_given (g.R.Look.words c.push.new.room) c.push.new.self)) (sym c.copy.ensures)
          (subst (AreUpTo (catalog_key b.node name)) (sym gains.has_pairs) (attribute_up s w b volume name value k p builds take valid key paid));
      fits = builds.fits;
      next = builds.next;
      node = attribute_node s w b volume name value k p builds take valid key paid;
      count = attribute_count s w b volume name value k p builds take valid key paid;
      name = subst (λ n. IsLastName (Some n) (attributes_of nodes b.node)) (sym c.copy.ensures) (attribute_last s w b volume name value k p builds take valid key paid);
      indices = subst (λ ks. AreCollected b.entries.items ks (fin.entries (with_held volume b.node name value held).indices)) (sym c.in_ok-add_key.ensures.lists)
          (place_collected s w b volume name value builds held c.in_ok-at.at c.in_ok-at.ensures.found (attribute_none s w b volume name value k p builds take valid key paid) c.in_ok-add_key.ensures.short);
      named = builds.named;
      sound = attribute_sound s w b volume name value k p builds take valid key paid c.named.ensures c.payload_of.ensures.valid held;
      page = taken_stays g.R.Look.kept g.R.Look.page_state g.R.Look.words (pages_taken w b.catalog) (pages_taken (g.R.Look.words c.push.new.room) c.push.new.self) c.args.room.now c.push.new.room b.page gains.swaps builds.page;
    })

pub returns-clause-hand : goal.returns-clause-hand
returns-clause-hand g c =
    let b = c.args.self.now in
    hand_more g.R.Look.kept g.R.Look.page_state g.R.Look.words (b.page ∷ []) (pages_taken (g.R.Look.words c.args.room.now) b.catalog) (pages_taken (g.R.Look.words c.push.new.room) c.push.new.self) c.args.room.now c.push.new.room
    c.in_ok-push.ensures.gains.swaps
