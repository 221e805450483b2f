use Rattle.std.proofs.Common.{Bool, List, reverse, ap, sym, ◌∙◌}
use Rattle.std.specs.Option.{option_copied}
use Rattle.be_tree_reading.specs.Back.{coming}
use Rattle.be_tree_reading.specs.Cursor.{remaining}
use Rattle.be_tree_reading.specs.Pair.{Pair}
use Rattle.be_tree_reading.specs.Tree.{pairs}
use Rattle.be_tree_reading.specs.Walk.{from_start}
use Rattle.be_tree_reading.proofs.Walks.{turned_down, turned_up}
use Rattle.be_tree_reading.proofs.way.Walk.begin.Goals as goal

pub returns-then-way-clause-walk : goal.returns-then-way-clause-walk
returns-then-way-clause-walk g c = (c.new.ensures.cursor (g.L.Look.page_state c.args.look.now) (g.L.Look.words c.args.look.now), c.seek.ensures.cursor)

pub returns-then-way-clause-ahead : goal.returns-then-way-clause-ahead
returns-then-way-clause-ahead g c =
    let words = g.L.Look.words c.args.look.now in
    let way = c.args.way in
    turned_down way.back (remaining words c.new.result) (coming words c.seek.new.self) c.if-way.true
    ∙ ap (λ (xs : List Pair). reverse xs) c.seek.ensures.coming
    ∙ ap (λ (b : Bool). from_start b way.strict way.low.now (option_copied way.high) (pairs words c.args.root)) (sym c.if-way.true)

pub returns-clause-walk : goal.returns-clause-walk
returns-clause-walk g c = (c.seek-2.ensures.cursor, c.new-2.ensures.cursor (g.L.Look.page_state c.args.look.now) (g.L.Look.words c.args.look.now))

pub returns-clause-ahead : goal.returns-clause-ahead
returns-clause-ahead g c =
    let words = g.L.Look.words c.args.look.now in
    let way = c.args.way in
    turned_up way.back (remaining words c.seek-2.new.self) (coming words c.new-2.result) c.if-way.false
    ∙ c.seek-2.ensures.remaining
    ∙ ap (λ (b : Bool). from_start b way.strict way.low.now (option_copied way.high) (pairs words c.args.root)) (sym c.if-way.false)
