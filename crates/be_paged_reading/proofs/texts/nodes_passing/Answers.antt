use Rattle.std.proofs.Common.{◌≡◌, ◌∙◌, ◌++◌, ℕ, List, false, ap, sym, subst}
use Rattle.std.specs.Option.{option_copied}
use Rattle.std.proofs.lemmas.List.Elements.{All-filter}
use Rattle.std.proofs.lemmas.Result.{IfOk-weaker}
use Rattle.be_pages.specs.declared.room.PageState.{PageState}
use Rattle.be_tree_reading.specs.Cursor.{IsCursor, remaining}
use Rattle.be_tree_reading.specs.Pair.{Pair}
use Rattle.be_tree_reading.specs.Range.{HasFirst, is_from, pairs_from}
use Rattle.be_tree_reading.specs.Tree.{pairs}
use Rattle.be_paged_reading.specs.Texts.{AreTexts, IsTextKey, nodes_passing_to}
use Rattle.be_paged_reading.proofs.texts.nodes_passing.Goals as goal

pub test_rest-requires-clause-cursor : goal.test_rest-requires-clause-cursor
test_rest-requires-clause-cursor g c =
    subst (λ (w : ℕ → ℕ → ℕ). IsCursor (g.L.Look.page_state c.seek.new.look) w c.seek.new.self) (sym c.seek.ensures.unchanged.words)
    (subst (λ (s : ℕ → PageState). IsCursor s (g.L.Look.words c.args.look.now) c.seek.new.self) (sym c.seek.ensures.unchanged.page_state) c.seek.ensures.cursor)

pub test_rest-requires-clause-texts : goal.test_rest-requires-clause-texts
test_rest-requires-clause-texts g c =
    let words = g.L.Look.words c.args.look.now in
    subst (λ (w : ℕ → ℕ → ℕ). AreTexts (remaining w c.seek.new.self)) (sym c.seek.ensures.unchanged.words)
    (subst AreTexts (sym c.seek.ensures.remaining)
    (All-filter (λ (x : Pair). is_from c.args.low.now false x.key) (λ (x : Pair). IsTextKey x.key) (pairs words c.args.root) c.requires.texts))

pub returns-clause-first : goal.returns-clause-first
returns-clause-first g c =
    let to = λ (ps : List Pair). nodes_passing_to c.args.test.now.0 c.args.test.now.1 ps (option_copied c.args.high) in
    subst (λ (ps : List Pair). HasFirst c.args.found.now.items (to ps) c.test_rest.new.found.items) c.seek.ensures.remaining
    (subst (λ (w : ℕ → ℕ → ℕ). HasFirst c.args.found.now.items (to (remaining w c.seek.new.self)) c.test_rest.new.found.items) c.seek.ensures.unchanged.words c.test_rest.ensures.first)

pub returns-clause-found : goal.returns-clause-found
returns-clause-found g c =
    let words = g.L.Look.words c.args.look.now in
    let to = λ (ps : List Pair). nodes_passing_to c.args.test.now.0 c.args.test.now.1 ps (option_copied c.args.high) in
    let before = c.args.found.now.items in
    let now = c.test_rest.new.found.items in
    IfOk-weaker c.test_rest.result (λ _. now ≡ before ++ to (remaining (g.L.Look.words c.seek.new.look) c.seek.new.self))
    (λ _. now ≡ before ++ to (pairs_from (pairs words c.args.root) c.args.low.now false))
    (λ _ h. h ∙ ap (λ (w : ℕ → ℕ → ℕ). before ++ to (remaining w c.seek.new.self)) c.seek.ensures.unchanged.words ∙ ap (λ (ps : List Pair). before ++ to ps) c.seek.ensures.remaining)
    c.test_rest.ensures.found
