use Rattle.std.proofs.Common.{◌≡◌, ◌∙◌, ◌++◌, ◌≤◌, ℕ, List, false, length, drop, ap, sym, subst}
use Rattle.std.specs.Option.{option_copied}
use Rattle.std.proofs.lemmas.List.Elements.{All-filter}
use Rattle.std.proofs.lemmas.Result.{IfOk-weaker}
use Rattle.be_pages.specs.declared.room.PageState.{PageState}
use Rattle.be_tree_reading.specs.Cursor.{IsCursor, remaining}
use Rattle.be_tree_reading.specs.Pair.{Pair}
use Rattle.be_tree_reading.specs.Page.{items_of}
use Rattle.be_tree_reading.specs.Places.{AreFrom}
use Rattle.be_tree_reading.specs.Range.{AreLong, HasFirst, is_from, numbers_to, pairs_from}
use Rattle.be_tree_reading.specs.Tree.{pairs}
use Rattle.be_tree_reading.proofs.Reading.Leaves.{long_right}
use Rattle.be_tree_reading.proofs.numbers.push_past.Goals as goal

pub push_rest-requires-clause-cursor : goal.push_rest-requires-clause-cursor
push_rest-requires-clause-cursor g c =
    subst (λ (w : ℕ → ℕ → ℕ). IsCursor (g.L.Look.page_state c.seek_past.new.look) w c.seek_past.new.cursor) (sym c.seek_past.ensures.unchanged.words)
    (subst (λ (s : ℕ → PageState). IsCursor s (g.L.Look.words c.args.look.now) c.seek_past.new.cursor) (sym c.seek_past.ensures.unchanged.page_state) c.seek_past.ensures.cursor)

pub push_rest-requires-clause-long : goal.push_rest-requires-clause-long
push_rest-requires-clause-long g c =
    let words = g.L.Look.words c.args.look.now in
    let rest = c.requires.from.0 in
    let from = c.requires.from.1 in
    let long = All-filter (λ (x : Pair). is_from c.args.low.now false x.key) (λ (x : Pair). 8 ≤ length x.key) (pairs words c.args.root) c.requires.long in
    subst (λ (w : ℕ → ℕ → ℕ). AreLong (remaining w c.seek_past.new.cursor)) (sym c.seek_past.ensures.unchanged.words)
    (subst AreLong (sym (c.seek_past.ensures.remaining rest from)) (long_right (drop from.number (items_of (words c.args.leaf.page))) rest (subst AreLong from.parts long)))

pub returns-clause-first : goal.returns-clause-first
returns-clause-first g c = λ rest from.
    subst (λ (ps : List Pair). HasFirst c.args.found.now.items (numbers_to ps (option_copied c.args.high)) c.push_rest.new.found.items) (c.seek_past.ensures.remaining rest from)
    (subst (λ (w : ℕ → ℕ → ℕ). HasFirst c.args.found.now.items (numbers_to (remaining w c.seek_past.new.cursor) (option_copied c.args.high)) c.push_rest.new.found.items) c.seek_past.ensures.unchanged.words c.push_rest.ensures.first)

pub returns-clause-found : goal.returns-clause-found
returns-clause-found g c =
    let words = g.L.Look.words c.args.look.now in
    let high = option_copied c.args.high in
    let before = c.args.found.now.items in
    let now = c.push_rest.new.found.items in
    let cursor = c.seek_past.new.cursor in
    IfOk-weaker c.push_rest.result (λ _. now ≡ before ++ numbers_to (remaining (g.L.Look.words c.seek_past.new.look) cursor) high)
    (λ _. (rest : List Pair) → AreFrom words c.args.leaf.page c.args.leaf.at (pairs_from (pairs words c.args.root) c.args.low.now false) rest → now ≡ before ++ numbers_to rest high)
    (λ _ h rest from. h ∙ ap (λ (w : ℕ → ℕ → ℕ). before ++ numbers_to (remaining w cursor) high) c.seek_past.ensures.unchanged.words ∙ ap (λ (ps : List Pair). before ++ numbers_to ps high) (c.seek_past.ensures.remaining rest from))
    c.push_rest.ensures.found
