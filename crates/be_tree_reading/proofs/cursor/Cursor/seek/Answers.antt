use Rattle.std.proofs.Common.{◌≡◌, ℕ, List, [], ap, sym, subst, ◌∙◌, arith}
use Rattle.be_pages.specs.declared.room.PageState.{PageState}
use Rattle.be_tree_reading.specs.declared.cursor.Place.{Place}
use Rattle.be_tree_reading.specs.Cursor.{IsPath, pairs_along}
use Rattle.be_tree_reading.specs.Range.{pairs_from}
use Rattle.be_tree_reading.specs.Tree.{pairs}
use Rattle.be_tree_reading.proofs.Items.{items_count}
use Rattle.be_tree_reading.proofs.Reading.Cursors.{along_push, path_push}
use Rattle.be_tree_reading.proofs.Shape.Levels.{kept_not_free}
use Rattle.be_tree_reading.proofs.cursor.Cursor.seek.Goals as goal

-- an empty path
empty : (path : List Place) → path ≡ [] → (page_state : ℕ → PageState) (words : ℕ → ℕ → ℕ) → IsPath page_state words path
empty path e page_state words = subst (IsPath page_state words) (sym e) (record { places = λ i d lt. absurd (omega (arith, lt)); short = λ i d lt. absurd (omega (arith, lt)) })

pub returns-then-root-eq0-clause-cursor : goal.returns-then-root-eq0-clause-cursor
returns-then-root-eq0-clause-cursor g c = empty c.clear.new.self.items c.clear.ensures (g.L.Look.page_state c.args.look.now) (g.L.Look.words c.args.look.now)

pub returns-then-root-eq0-clause-remaining : goal.returns-then-root-eq0-clause-remaining
returns-then-root-eq0-clause-remaining g c =
    let words = g.L.Look.words c.args.look.now in
    ap (pairs_along words) c.clear.ensures ∙ ap (λ (r : ℕ). pairs_from (pairs words r) c.args.from.now c.args.after) (sym c.if-root-eq0.true)

-- a page in use has a small number, and an item's number is at most 12
pub overflow_cast-page : goal.overflow_cast-page
overflow_cast-page g c =
    let leaf = c.descend-page.ensures.leaf in
    let page = c.descend-page.result.0 in
    omega (arith, g.met.L.Look.pages_small c.args.look.now page (kept_not_free (g.L.Look.page_state c.args.look.now page) leaf.page_in_use))

pub overflow_cast-next : goal.overflow_cast-next
overflow_cast-next g c = omega (arith, c.descend-page.ensures.in_range, c.descend-page.ensures.leaf.node.is_page.few)

pub returns-clause-cursor : goal.returns-clause-cursor
returns-clause-cursor g c =
    let page_state = g.L.Look.page_state c.args.look.now in
    let words = g.L.Look.words c.args.look.now in
    let d = c.descend-page.ensures in
    let path = c.descend-page.new.self.path.items in
    let place : Place = record { page = c.descend-page.result.0; next = c.descend-page.result.1; level = 0 } in
    subst (IsPath page_state words) (sym c.push.ensures.items) (path_push page_state words path place d.cursor
    (record { tree = d.leaf; in_range = omega (arith, d.in_range, items_count (words c.descend-page.result.0)) }) (omega (arith, d.short)))

pub returns-clause-remaining : goal.returns-clause-remaining
returns-clause-remaining g c =
    let words = g.L.Look.words c.args.look.now in
    let path = c.descend-page.new.self.path.items in
    let place : Place = record { page = c.descend-page.result.0; next = c.descend-page.result.1; level = 0 } in
    ap (pairs_along words) c.push.ensures.items ∙ along_push words path place ∙ sym c.descend-page.ensures.parts
