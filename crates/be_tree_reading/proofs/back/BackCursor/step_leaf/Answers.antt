use Rattle.std.proofs.Common.{◌≡◌, ℕ, [], ◌∷◌, ◌++◌, ◌+◌, ◌-◌, ◌*◌, ◌<◌, length, take, refl, ap, sym, subst, ◌∙◌, arith, append_assoc}
use Rattle.std.proofs.lemmas.List.{length-append}
use Rattle.be_pages.specs.declared.room.PageState.{PageState}
use Rattle.be_tree_reading.specs.declared.cursor.Place.{Place}
use Rattle.be_tree_reading.specs.Back.{pairs_before, pairs_up_to}
use Rattle.be_tree_reading.specs.Cursor.{IsPath, IsPlace}
use Rattle.be_tree_reading.specs.Page.{IsItem, item_at, items_of}
use Rattle.be_tree_reading.specs.Tree.{IsTreeAt, child, pairs_at, pairs_below}
use Rattle.be_tree_reading.proofs.Reading.Backward.{leads_back, up_push}
use Rattle.be_tree_reading.proofs.Reading.Cursors.{LeadsDown, path_push, leads_down}
use Rattle.be_tree_reading.proofs.Frame.{unchanged_trans}
use Rattle.be_tree_reading.proofs.Items.{items_count}
use Rattle.be_tree_reading.proofs.back.BackCursor.step_leaf.Given.{Over}
use Rattle.be_tree_reading.proofs.back.BackCursor.step_leaf.Goals as goal
use Rattle.be_tree_reading.proofs.back.BackCursor.step_leaf.Goals.{After-child_at-child}

pub returns-in_err-place-clause-cursor : goal.returns-in_err-place-clause-cursor
returns-in_err-place-clause-cursor g c = c.pop_spent.ensures.cursor (g.L.Look.page_state c.args.look.now) (g.L.Look.words c.args.look.now) c.requires.cursor

pub loop-place-init : goal.loop-place-init
loop-place-init g c =
    let page_state = g.L.Look.page_state c.args.look.now in
    let words = g.L.Look.words c.args.look.now in
    let i = c.in_ok-place.ensures in
    record {
      place = i.place page_state words c.requires.cursor;
      left = i.left;
      path = c.pop_spent.ensures.cursor page_state words c.requires.cursor;
      short = i.short page_state words c.requires.cursor;
      same = sym (i.parts words);
      unchanged = record { kept = refl; page_state = refl; words = refl };
    }

-- the branch before the place
pub child_at-child-requires-clause-in_page : goal.child_at-child-requires-clause-in_page
child_at-child-requires-clause-in_page g c =
    let i = c.loop-place.invariant in
    omega (arith, i.left, i.place.in_range, i.place.tree.node.is_page.few, items_count (g.L.Look.words c.args.look.now c.loop-place.place.page))

pub child_at-child-requires-clause-item : goal.child_at-child-requires-clause-item
child_at-child-requires-clause-item g c =
    let i = c.loop-place.invariant in
    let place = c.loop-place.place in
    subst (λ (w : ℕ → ℕ → ℕ). IsItem (w place.page) (2 + 42 * (place.next - 1))) (sym i.unchanged.words)
    (i.place.tree.node.is_page.each (place.next - 1) (omega (arith, i.left, i.place.in_range, items_count (g.L.Look.words c.args.look.now place.page))))

pub child_at-child-requires-clause-names_page : goal.child_at-child-requires-clause-names_page
child_at-child-requires-clause-names_page g c =
    let place = c.loop-place.place in
    let i = c.loop-place.invariant in
    let words = g.L.Look.words c.args.look.now in
    let lead = leads_down place.level (place.level - 1) (g.L.Look.page_state c.args.look.now) words 1 place.page (place.next - 1) (omega (arith, c.loop-place-test.true)) i.place.tree
    (omega (arith, i.left, i.place.in_range, items_count (words place.page))) in
    subst (λ (w : ℕ → ℕ → ℕ). length (item_at (w place.page) (2 + 42 * (place.next - 1))).payload ≡ 8) (sym i.unchanged.words) lead.names_page

-- the page below it
leads : (g : Over) (c : After-child_at-child g) → LeadsDown c.loop-place.place.level (c.loop-place.place.level - 1) (g.L.Look.page_state c.args.look.now) (g.L.Look.words c.args.look.now) c.loop-place.place.page
    (c.loop-place.place.next - 1) (item_at (g.L.Look.words c.args.look.now c.loop-place.place.page) (2 + 42 * (c.loop-place.place.next - 1)))
leads g c =
    let place = c.loop-place.place in
    let i = c.loop-place.invariant in
    let words = g.L.Look.words c.args.look.now in
    leads_down place.level (place.level - 1) (g.L.Look.page_state c.args.look.now) words 1 place.page (place.next - 1) (omega (arith, c.loop-place-test.true)) i.place.tree
    (omega (arith, i.left, i.place.in_range, items_count (words place.page)))

child_is : (g : Over) (c : After-child_at-child g) → c.child_at-child.result ≡ child (item_at (g.L.Look.words c.args.look.now c.loop-place.place.page) (2 + 42 * (c.loop-place.place.next - 1)))
child_is g c = c.child_at-child.ensures.child ∙ ap (λ (w : ℕ → ℕ → ℕ). child (item_at (w c.loop-place.place.page) (2 + 42 * (c.loop-place.place.next - 1)))) c.loop-place.invariant.unchanged.words

read : (g : Over) (c : After-child_at-child g) → g.L.Look.words c.child_at-child.new.look ≡ g.L.Look.words c.args.look.now
read g c = c.child_at-child.ensures.unchanged.words ∙ c.loop-place.invariant.unchanged.words

states : (g : Over) (c : After-child_at-child g) → g.L.Look.page_state c.child_at-child.new.look ≡ g.L.Look.page_state c.args.look.now
states g c = c.child_at-child.ensures.unchanged.page_state ∙ c.loop-place.invariant.unchanged.page_state

tree : (g : Over) (c : After-child_at-child g) → IsTreeAt (c.loop-place.place.level - 1) 1 (g.L.Look.page_state c.args.look.now) (g.L.Look.words c.args.look.now) c.child_at-child.result
tree g c = subst (λ p. IsTreeAt (c.loop-place.place.level - 1) 1 (g.L.Look.page_state c.args.look.now) (g.L.Look.words c.args.look.now) p) (sym (child_is g c)) (leads g c).tree

pub after_items-place-requires : goal.after_items-place-requires
after_items-place-requires g c =
    let at = (goal.at.after_items-place-requires g c).After-child_at-child in
    let down = c.loop-place.place.level - 1 in
    let page = c.child_at-child.result in
    record {
      tree = (
        1,
        omega arith,
        subst (λ (w : ℕ → ℕ → ℕ). IsTreeAt down 1 (g.L.Look.page_state c.child_at-child.new.look) w page) (sym (read g at))
            (subst (λ (s : ℕ → PageState). IsTreeAt down 1 s (g.L.Look.words c.args.look.now) page) (sym (states g at)) (tree g at)),
      );
    }

pub loop-place-preserved : goal.loop-place-preserved
loop-place-preserved g c =
    let at = (goal.at.loop-place-preserved g c).After-child_at-child in
    let page_state = g.L.Look.page_state c.args.look.now in
    let words = g.L.Look.words c.args.look.now in
    let place = c.loop-place.place in
    let path = c.loop-place.self.path.items in
    let i = c.loop-place.invariant in
    let down = place.level - 1 in
    let below = c.after_items-place.result in
    let is = c.after_items-place.ensures in
    let before : Place = record { page = place.page; next = place.next - 1; level = place.level } in
    let branch = item_at (words place.page) (2 + 42 * (place.next - 1)) in
    let in_items : place.next - 1 < words place.page 1 = omega (arith, i.left, i.place.in_range, items_count (words place.page)) in
    let back : place.next ≡ place.next - 1 + 1 = omega (arith, i.left) in
    let same_all : pairs_before words below ≡ pairs_at down words (child branch) =
    sym (ap (λ (w : ℕ → ℕ → ℕ). pairs_before w below) (read g at)) ∙ is.all ∙ ap (λ (w : ℕ → ℕ → ℕ). pairs_at down w c.child_at-child.result) (read g at)
    ∙ ap (λ p. pairs_at down words p) (child_is g at) in
    let some : 0 < words (child branch) 1 = (leads g at).some in
    record {
      place = subst (λ (w : ℕ → ℕ → ℕ). IsPlace page_state w below) (read g at) (subst (λ (s : ℕ → PageState). IsPlace s (g.L.Look.words c.child_at-child.new.look) below) (states g at) is.place);
      left = omega (arith, is.next ∙ ap (λ (w : ℕ → ℕ → ℕ). w c.child_at-child.result 1) (read g at) ∙ ap (λ p. words p 1) (child_is g at), some);
      path = subst (IsPath page_state words) (sym c.push.ensures.items) (path_push page_state words path before i.path (record { tree = i.place.tree; in_range = omega (arith, in_items, items_count (words place.page)) }) i.short);
      short = omega (arith, is.level, i.short, c.loop-place-test.true, ap length c.push.ensures.items, length-append path (before ∷ []));
      same = ap (λ ps. pairs_up_to words ps ++ pairs_before words below) c.push.ensures.items
          ∙ ap (λ xs. xs ++ pairs_before words below) (up_push words path before)
          ∙ append_assoc (pairs_up_to words path) (pairs_before words before) (pairs_before words below)
          ∙ ap (λ xs. pairs_up_to words path ++ xs) (ap (λ xs. pairs_before words before ++ xs) same_all
          ∙ sym (leads_back place.level down words place.page (place.next - 1) (omega (arith, c.loop-place-test.true)) in_items)
          ∙ ap (λ n. pairs_below place.level words (take n (items_of (words place.page)))) (sym back))
          ∙ i.same;
      unchanged = unchanged_trans g.L.Look.kept g.L.Look.page_state g.L.Look.words c.args.look.now c.child_at-child.new.look c.after_items-place.new.look
          (unchanged_trans g.L.Look.kept g.L.Look.page_state g.L.Look.words c.args.look.now c.loop-place.look c.child_at-child.new.look i.unchanged c.child_at-child.ensures.unchanged)
          is.unchanged;
    }

-- the place is in a leaf
pub returns-clause-leaf : goal.returns-clause-leaf
returns-clause-leaf g c =
    let leaf : c.loop-place.place.level ≡ 0 = omega (arith, c.loop-place-test.false) in
    subst (λ (l : ℕ). IsTreeAt l 1 (g.L.Look.page_state c.args.look.now) (g.L.Look.words c.args.look.now) c.loop-place.place.page) leaf c.loop-place.invariant.place.tree

pub returns-clause-in_range : goal.returns-clause-in_range
returns-clause-in_range g c = omega (arith, c.loop-place.invariant.place.in_range, items_count (g.L.Look.words c.args.look.now c.loop-place.place.page))

pub returns-clause-parts : goal.returns-clause-parts
returns-clause-parts g c =
    let words = g.L.Look.words c.args.look.now in
    let place = c.loop-place.place in
    let leaf : place.level ≡ 0 = omega (arith, c.loop-place-test.false) in
    sym c.loop-place.invariant.same ∙ ap (λ (l : ℕ). pairs_up_to words c.loop-place.self.path.items ++ pairs_below l words (take place.next (items_of (words place.page)))) leaf
