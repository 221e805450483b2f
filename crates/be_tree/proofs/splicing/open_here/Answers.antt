use Rattle.std.proofs.Common.{◌≡◌, ℕ, ◌+◌, ◌-◌, ◌<◌, ◌∙◌, ap, inl, inr, arith}
use Rattle.be_pages.specs.Pages.{OnlyWrites}
use Rattle.be_tree_reading.specs.Page.{IsItem, item_at, item_place}
use Rattle.be_tree.specs.Splicing.{AreCopies}
use Rattle.be_tree.proofs.Splices.{fill_only, filled_word, gap_of, only_since, there}
use Rattle.be_tree.proofs.splicing.open_here.Given.{Over}
use Rattle.be_tree.proofs.splicing.open_here.Goals as goal
use Rattle.be_tree.proofs.splicing.open_here.Goals.{After-fill}

-- the header has the new count, and the items are unchanged
header : (g : Over) (c : After-fill g) → OnlyWrites g.R.Look.kept g.R.Look.page_state g.R.Look.words c.args.page 1 2 c.args.room.now c.fill.new.self
header g c =
    let read = c.word-count.new.self in
    only_since g.R.Look.kept g.R.Look.page_state g.R.Look.words c.args.page 1 2 c.args.room.now read c.fill.new.self c.word-count.ensures.kept c.word-count.ensures.page_state c.word-count.ensures.words
    (fill_only g.R.Look.kept g.R.Look.page_state g.R.Look.words c.args.page 1 _ read c.fill.new.self c.fill.ensures.kept c.fill.ensures.page_state
    (ap (λ s. s c.args.page) c.word-count.ensures.page_state ∙ c.requires.filled) c.fill.ensures.place c.fill.ensures.others)

still : (g : Over) (c : After-fill g) (j : ℕ) → j < g.R.Look.words c.args.room.now c.args.page 1
    → (item_at (g.R.Look.words c.fill.new.self c.args.page) (item_place j) ≡ item_at (g.R.Look.words c.args.room.now c.args.page) (item_place j)) × IsItem (g.R.Look.words c.fill.new.self c.args.page) (item_place j)
still g c j lt =
    there g.R.Look.kept g.R.Look.page_state g.R.Look.words c.args.page 1 2 c.args.room.now c.fill.new.self (header g c) c.args.page (item_place j) (λ e. inl (omega arith)) (c.requires.page.each j lt)

pub move_items-requires-clause-items : goal.move_items-requires-clause-items
move_items-requires-clause-items g c = λ k lt.
    (still g (goal.at.move_items-requires-clause-items g c).After-fill (c.args.cut.at + c.args.cut.gone + k) (omega (arith, lt, c.word-count.ensures.value))).1

pub returns-clause-gap : goal.returns-clause-gap
returns-clause-gap g c =
    let at = (goal.at.returns-clause-gap g c).After-fill in
    let u = g.R.Look.words c.args.room.now c.args.page in
    let v = g.R.Look.words c.move_items.new.room c.args.page in
    let cut = c.args.cut in
    let only = c.move_items.ensures.only in
    let rest = c.word-count.result - (cut.at + cut.gone) in
    let value = c.word-count.ensures.value in
    let front : AreCopies u v 0 0 cut.at = λ k lt.
    let was = still g at (0 + k) (omega (arith, lt, c.requires.in_range)) in
    let now = there g.R.Look.kept g.R.Look.page_state g.R.Look.words c.args.page (item_place (cut.at + c.args.more)) (item_place (cut.at + c.args.more + rest)) c.fill.new.self c.move_items.new.room only
    c.args.page (item_place (0 + k)) (λ e. inr (omega (arith, lt))) was.1 in
    (now.0 ∙ was.0, now.1) in
    let back : AreCopies u v (cut.at + cut.gone) (cut.at + c.args.more) rest = λ k lt.
    let now = c.move_items.ensures.copied k lt in
    (now.0 ∙ (still g at (cut.at + cut.gone + k) (omega (arith, lt, value))).0, now.1) in
    gap_of u v cut c.args.more rest c.requires.in_range (ap (λ n. n - (cut.at + cut.gone)) value) (only.before 0 (omega arith) ∙ (header g at).before 0 (omega arith))
    (only.before 1 (omega arith) ∙ c.fill.ensures.place 1 ∙ filled_word 1 (cut.at + c.args.more + rest) (g.R.Look.words c.word-count.new.self c.args.page 1)) front back
