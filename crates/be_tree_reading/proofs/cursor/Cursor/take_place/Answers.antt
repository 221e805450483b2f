use Rattle.std.proofs.Common.{◌≡◌, ℕ, [], ◌∷◌, ◌++◌, ◌+◌, ◌-◌, ◌*◌, ◌<◌, length, ap, sym, subst, ◌∙◌, arith, append_assoc}
use Rattle.std.proofs.lemmas.List.{length-append}
use Rattle.be_tree_reading.specs.declared.cursor.Place.{Place}
use Rattle.be_tree_reading.specs.Cursor.{IsPath, pairs_along, pairs_past}
use Rattle.be_tree_reading.specs.Page.{item_at}
use Rattle.be_tree_reading.specs.Tree.{IsTreeAt, child, pairs_at}
use Rattle.be_tree_reading.proofs.Reading.Cursors.{along_push, path_push, leads_down}
use Rattle.be_tree_reading.proofs.Frame.{unchanged_trans}
use Rattle.be_tree_reading.proofs.Shape.Levels.{kept_not_free}
use Rattle.be_tree_reading.proofs.Items.{items_count}
use Rattle.be_tree_reading.proofs.cursor.Cursor.take_place.Goals as goal

pub child_at-child-requires-clause-names_page : goal.child_at-child-requires-clause-names_page
child_at-child-requires-clause-names_page g c =
    let place = c.loop-place.place in
    let i = c.loop-place.invariant in
    let lead = leads_down place.level (place.level - 1) (g.L.Look.page_state c.args.look.now) (g.L.Look.words c.args.look.now) 1 place.page place.next (omega (arith, c.loop-place-test.true)) i.place.tree i.left in
    subst (λ (w : ℕ → ℕ → ℕ). length (item_at (w place.page) (2 + 42 * place.next)).payload ≡ 8) (sym i.unchanged.words) lead.names_page

-- the child is in use, so its number is small
pub overflow_cast-place-in-loop-place-2 : goal.overflow_cast-place-in-loop-place-2
overflow_cast-place-in-loop-place-2 g c =
    let page_state = g.L.Look.page_state c.args.look.now in
    let words = g.L.Look.words c.args.look.now in
    let place = c.loop-place.place in
    let i = c.loop-place.invariant in
    let lead = leads_down place.level (place.level - 1) page_state words 1 place.page place.next (omega (arith, c.loop-place-test.true)) i.place.tree i.left in
    let branch = item_at (words place.page) (2 + 42 * place.next) in
    let is = c.child_at-child.ensures.child ∙ ap (λ (w : ℕ → ℕ → ℕ). child (item_at (w place.page) (2 + 42 * place.next))) i.unchanged.words in
    omega (arith, is, g.met.L.Look.pages_small c.args.look.now (child branch) (kept_not_free (page_state (child branch)) lead.tree.page_in_use))

pub loop-place-preserved : goal.loop-place-preserved
loop-place-preserved g c =
    let page_state = g.L.Look.page_state c.args.look.now in
    let words = g.L.Look.words c.args.look.now in
    let place = c.loop-place.place in
    let path = c.loop-place.self.path.items in
    let i = c.loop-place.invariant in
    let down = place.level - 1 in
    let lead = leads_down place.level down page_state words 1 place.page place.next (omega (arith, c.loop-place-test.true)) i.place.tree i.left in
    let branch = item_at (words place.page) (2 + 42 * place.next) in
    let is = c.child_at-child.ensures.child ∙ ap (λ (w : ℕ → ℕ → ℕ). child (item_at (w place.page) (2 + 42 * place.next))) i.unchanged.words in
    let past : Place = record { page = place.page; next = place.next + 1; level = place.level } in
    record {
      place = record { tree = subst (λ p. IsTreeAt down 1 page_state words p) (sym is) lead.tree; in_range = omega arith };
      left = subst (λ p. 0 < words p 1) (sym is) lead.some;
      path = subst (IsPath page_state words) (sym c.push.ensures.items) (path_push page_state words path past i.path (record { tree = i.place.tree; in_range = omega (arith, i.left, items_count (words place.page)) }) i.short);
      short = omega (arith, i.short, c.loop-place-test.true, ap length c.push.ensures.items, length-append path (past ∷ []));
      same = ap (λ p. pairs_at down words p ++ pairs_along words c.push.new.self.items) is
          ∙ ap (λ ps. pairs_at down words (child branch) ++ pairs_along words ps) c.push.ensures.items
          ∙ ap (λ xs. pairs_at down words (child branch) ++ xs) (along_push words path past)
          ∙ sym (append_assoc (pairs_at down words (child branch)) (pairs_past words past) (pairs_along words path))
          ∙ ap (λ xs. xs ++ pairs_along words path) (sym lead.parts)
          ∙ i.same;
      unchanged = unchanged_trans g.L.Look.kept g.L.Look.page_state g.L.Look.words c.args.look.now c.loop-place.look c.child_at-child.new.look i.unchanged c.child_at-child.ensures.unchanged;
    }

pub returns-clause-parts : goal.returns-clause-parts
returns-clause-parts g c = sym c.loop-place.invariant.same
