use Rattle.std.proofs.Common.{List, ◌+◌, drop, ap, sym, subst, ◌∙◌, arith}
use Rattle.std.specs.List.{slice_get}
use Rattle.be_tree_reading.specs.declared.cursor.Place.{Place}
use Rattle.be_tree_reading.specs.Pair.{Pair}
use Rattle.be_tree_reading.specs.Cursor.{IsPath, pairs_along}
use Rattle.be_tree_reading.proofs.Reading.Cursors.{along_push, path_push, step_parts}
use Rattle.be_tree_reading.proofs.Items.{items_count}
use Rattle.be_tree_reading.proofs.cursor.Cursor.step.Goals as goal

pub returns-clause-item : goal.returns-clause-item
returns-clause-item g c =
    let words = g.L.Look.words c.args.look.now in
    let i = c.in_ok-place.ensures in
    ap (λ (xs : List Pair). slice_get xs 0)
    (step_parts (g.L.Look.page_state c.args.look.now) words c.in_ok-place.place (pairs_along words c.args.self.now.path.items) (pairs_along words c.take_place.new.self.path.items) i.place.0 i.place.1.0 i.leaf i.parts)

pub returns-clause-cursor : goal.returns-clause-cursor
returns-clause-cursor g c =
    let page_state = g.L.Look.page_state c.args.look.now in
    let words = g.L.Look.words c.args.look.now in
    let place = c.in_ok-place.place in
    let i = c.in_ok-place.ensures in
    let past : Place = record { page = place.page; next = place.next + 1; level = place.level } in
    subst (IsPath page_state words) (sym c.push.ensures.items) (path_push page_state words c.take_place.new.self.path.items past c.take_place.ensures.cursor
    (record { tree = i.place.0.tree; in_range = omega (arith, i.place.1.0, items_count (words place.page)) }) i.place.1.1)

pub returns-clause-remaining : goal.returns-clause-remaining
returns-clause-remaining g c =
    let words = g.L.Look.words c.args.look.now in
    let place = c.in_ok-place.place in
    let i = c.in_ok-place.ensures in
    let past : Place = record { page = place.page; next = place.next + 1; level = place.level } in
    ap (pairs_along words) c.push.ensures.items ∙ along_push words c.take_place.new.self.path.items past
    ∙ sym (ap (λ (xs : List Pair). drop 1 xs)
    (step_parts (g.L.Look.page_state c.args.look.now) words place (pairs_along words c.args.self.now.path.items) (pairs_along words c.take_place.new.self.path.items) i.place.0 i.place.1.0 i.leaf i.parts))
