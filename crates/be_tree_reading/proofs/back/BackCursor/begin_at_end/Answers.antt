use Rattle.std.proofs.Common.{◌≡◌, ℕ, suc, ◌-◌, List, [], ◌++◌, length, ap, sym, subst, ◌∙◌, arith}
use Rattle.be_pages.specs.declared.room.PageState.{PageState}
use Rattle.be_tree_reading.specs.declared.cursor.Place.{Place}
use Rattle.be_tree_reading.specs.Back.{pairs_before, pairs_up_to}
use Rattle.be_tree_reading.specs.Cursor.{IsPath, IsPlace}
use Rattle.be_tree_reading.specs.Tree.{IsTreeAt, minimum_of_root, pairs_at}
use Rattle.be_tree_reading.proofs.Reading.Backward.{up_push}
use Rattle.be_tree_reading.proofs.Reading.Cursors.{path_push, root_pairs}
use Rattle.be_tree_reading.proofs.Shape.Heights.{height}
use Rattle.be_tree_reading.proofs.Shape.Roots.{root_tree, root_some}
use Rattle.be_tree_reading.proofs.back.BackCursor.begin_at_end.Goals as goal

-- an empty path
empty : (path : List Place) → path ≡ [] → (page_state : ℕ → PageState) (words : ℕ → ℕ → ℕ) → IsPath page_state words path
empty path e page_state words = subst (IsPath page_state words) (sym e) (record { places = λ i d lt. absurd (omega (arith, lt)); short = λ i d lt. absurd (omega (arith, lt)) })

pub after_items-place-requires : goal.after_items-place-requires
after_items-place-requires g c =
    let words = g.L.Look.words c.args.look.now in
    let level = c.word-level.result in
    let page = c.args.root - 1 in
    let is = root_tree c.args.root page level (g.L.Look.page_state c.args.look.now) words (omega (arith, c.requires.some)) c.word-level.ensures.value c.requires.tree in
    record {
      tree = (
        minimum_of_root level,
        root_some level,
        subst (λ (w : ℕ → ℕ → ℕ). IsTreeAt level (minimum_of_root level) (g.L.Look.page_state c.word-level.new.self) w page) (sym c.word-level.ensures.words)
            (subst (λ (s : ℕ → PageState). IsTreeAt level (minimum_of_root level) s words page) (sym c.word-level.ensures.page_state) is),
      );
    }

pub returns-clause-cursor : goal.returns-clause-cursor
returns-clause-cursor g c =
    let page_state = g.L.Look.page_state c.args.look.now in
    let words = g.L.Look.words c.args.look.now in
    let place = c.after_items-place.result in
    let path = c.args.self.now.path.items in
    let level = c.word-level.result in
    let is = root_tree c.args.root (c.args.root - 1) level page_state words (omega (arith, c.requires.some)) c.word-level.ensures.value c.requires.tree in
    let here = subst (λ (w : ℕ → ℕ → ℕ). IsPlace page_state w place) c.word-level.ensures.words (subst (λ (s : ℕ → PageState). IsPlace s (g.L.Look.words c.word-level.new.self) place) c.word-level.ensures.page_state c.after_items-place.ensures.place) in
    subst (IsPath page_state words) (sym c.push.ensures.items) (path_push page_state words path place (empty path c.requires.empty page_state words) here
    (omega (arith, c.after_items-place.ensures.level, ap length c.requires.empty, height level (minimum_of_root level) page_state words (c.args.root - 1) (root_some level) is (g.met.L.Look.pages_small c.args.look.now))))

pub returns-clause-coming : goal.returns-clause-coming
returns-clause-coming g c =
    let words = g.L.Look.words c.args.look.now in
    let place = c.after_items-place.result in
    let path = c.args.self.now.path.items in
    let page = c.args.root - 1 in
    let e : c.args.root ≡ suc page = omega (arith, c.requires.some) in
    ap (pairs_up_to words) c.push.ensures.items
    ∙ up_push words path place
    ∙ ap (λ (ps : List Place). pairs_up_to words ps ++ pairs_before words place) c.requires.empty
    ∙ sym (ap (λ (w : ℕ → ℕ → ℕ). pairs_before w place) c.word-level.ensures.words)
    ∙ c.after_items-place.ensures.all
    ∙ ap (λ (w : ℕ → ℕ → ℕ). pairs_at c.word-level.result w page) c.word-level.ensures.words
    ∙ sym (root_pairs c.args.root page c.word-level.result words e c.word-level.ensures.value)
