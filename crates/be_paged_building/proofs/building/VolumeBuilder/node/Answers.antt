use Rattle.std.proofs.Common.{◌≡◌, [], ◌∷◌, ◌+◌, length, sym, subst, ◌∙◌, refl, rules, arith, append-nil}
use Rattle.be_paged_building.specs.Building.{IsTooLarge, pages_held}
use Rattle.be_paged_building.specs.Errors.{NodeError}
use Rattle.be_paged_building.specs.Given.{with_node}
use Rattle.be_paged_building.proofs.Adding.{node_catalog, node_count, node_large, node_last, node_none, node_rising, node_up}
use Rattle.be_paged_building.proofs.Counts.{hand_more}
use Rattle.be_paged_building.proofs.Room.{as_given, no_room, taken_stays}
use Rattle.be_paged_building.proofs.Volumes.{node_sound}
use Rattle.be_paged_reading.specs.Catalog.{IsCatalog, catalog_key}
use Rattle.be_paged_building.specs.Building.{AreUpTo}
use Rattle.be_tree.specs.Building.{IsShort, pages_taken, pairs_given}
use Rattle.be_paged_building.proofs.building.VolumeBuilder.node.Goals as goal

pub push-requires-clause-rising : goal.push-requires-clause-rising
push-requires-clause-rising g c =
    let b = c.args.self.now in
    let key : c.to_be_bytes.result ≡ catalog_key c.args.node [] = c.to_be_bytes.ensures ∙ sym (append-nil _) in
    node_rising (g.R.Look.page_state c.args.room.now) (g.R.Look.words c.args.room.now) b b.volume.value c.args.node c.to_be_bytes.result c.requires.builds (omega arith) (omega arith) key

pub returns-in_err-push-clause-refused : goal.returns-in_err-push-clause-refused
returns-in_err-push-clause-refused g c =
    let b = c.args.self.now in
    let s = g.R.Look.page_state c.args.room.now in
    let w = g.R.Look.words c.args.room.now in
    let t = g.R.Look.page_state c.push.new.room in
    let key : c.to_be_bytes.result ≡ catalog_key c.args.node [] = c.to_be_bytes.ensures ∙ sym (append-nil _) in
    no_room b _ (NodeError b.volume.value c.args.node) c.from_residual.result (g.R.Room.full c.push.new.room) (IsShort (length (pages_taken w b.catalog)) (length (pairs_given w b.catalog) + 1) s t)
    (IsTooLarge (with_node b.volume.value c.args.node) (pages_held w b) s t) c.args.room.now c.push.new.room
    (node_large s w b b.volume.value c.args.node c.to_be_bytes.result c.requires.builds (omega arith) (omega arith) key t) (search rules)

pub returns-clause-ok : goal.returns-clause-ok
returns-clause-ok g c =
    let b = c.args.self.now in
    let volume = b.volume.value in
    let node = c.args.node in
    let k = c.to_be_bytes.result in
    let s = g.R.Look.page_state c.args.room.now in
    let w = g.R.Look.words c.args.room.now in
    let key : k ≡ catalog_key node [] = c.to_be_bytes.ensures ∙ sym (append-nil _) in
    let gains = c.in_ok-push.ensures.gains in
    let builds = c.requires.builds in
    as_given (g.R.Look.page_state c.push.new.room) (g.R.Look.words c.push.new.room) _ (with_node volume node) c.add_node.ensures (record {
      catalog = c.in_ok-push.ensures.builds;
      pairs = subst (λ xs. IsCatalog xs (with_node volume node).nodes) (sym gains.has_pairs) (node_catalog s w b volume node k builds (omega arith) (omega arith) key);
      highest = subst (AreUpTo (catalog_key node [])) (sym gains.has_pairs) (node_up s w b volume node k builds (omega arith) (omega arith) key);
      fits = omega arith;
      next = refl;
      node = node_last s w b volume node k builds (omega arith) (omega arith) key;
      count = node_count s w b volume node k builds (omega arith) (omega arith) key;
      name = node_none s w b volume node k builds (omega arith) (omega arith) key;
      indices = builds.indices;
      named = builds.named;
      sound = node_sound volume node builds.sound (omega (arith, builds.next)) (omega arith);
      page = taken_stays g.R.Look.kept g.R.Look.page_state g.R.Look.words (pages_taken w b.catalog) (pages_taken (g.R.Look.words c.push.new.room) c.push.new.self) c.args.room.now c.push.new.room b.page gains.swaps builds.page;
    })

pub returns-clause-hand : goal.returns-clause-hand
returns-clause-hand g c =
    let b = c.args.self.now in
    hand_more g.R.Look.kept g.R.Look.page_state g.R.Look.words (b.page ∷ []) (pages_taken (g.R.Look.words c.args.room.now) b.catalog) (pages_taken (g.R.Look.words c.push.new.room) c.push.new.self) c.args.room.now c.push.new.room
    c.in_ok-push.ensures.gains.swaps
