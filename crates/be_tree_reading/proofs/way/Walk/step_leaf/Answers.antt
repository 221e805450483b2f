use Rattle.std.proofs.Common.{◌∙◌, List, ◌++◌, reverse, take, drop, ap, sym, arith}
use Rattle.std.proofs.lemmas.List.{reverse-append}
use Rattle.be_tree_reading.specs.Back.{coming}
use Rattle.be_tree_reading.specs.Cursor.{remaining}
use Rattle.be_tree_reading.specs.Page.{items_of}
use Rattle.be_tree_reading.specs.Pair.{Pair}
use Rattle.be_tree_reading.proofs.Walks.{count_down, count_up, reverse_nil, turned_down, turned_up}
use Rattle.be_tree_reading.proofs.way.Walk.step_leaf.Goals as goal

-- nothing is before the backward cursor
pub returns-in_err-page-clause-none : goal.returns-in_err-page-clause-none
returns-in_err-page-clause-none g c =
    let words = g.L.Look.words c.args.look.now in
    let walk = c.args.self.now in
    rw c.from_residual.ensures (turned_down walk.back (remaining words walk.rising) (coming words walk.falling) c.if-self.true ∙ reverse_nil (coming words walk.falling) c.in_err-page.ensures.none)

pub returns-then-self-clause-turned : goal.returns-then-self-clause-turned
returns-then-self-clause-turned g c = sym c.if-self.true

pub returns-then-self-clause-some : goal.returns-then-self-clause-some
returns-then-self-clause-some g c =
    let words = g.L.Look.words c.args.look.now c.in_ok-page.page in
    omega (arith, count_down words c.in_ok-page.at c.in_ok-page.ensures.in_range, c.in_ok-page.ensures.some)

pub returns-then-self-clause-parts : goal.returns-then-self-clause-parts
returns-then-self-clause-parts g c =
    let words = g.L.Look.words c.args.look.now in
    let walk = c.args.self.now in
    let now = c.step_leaf.new.self in
    let front = coming words now in
    let here = take c.in_ok-page.at (items_of (words c.in_ok-page.page)) in
    turned_down walk.back (remaining words walk.rising) (coming words walk.falling) c.if-self.true
    ∙ ap (λ (xs : List Pair). reverse xs) c.in_ok-page.ensures.parts
    ∙ reverse-append front here
    ∙ ap (λ (xs : List Pair). reverse here ++ xs) (sym (turned_down walk.back (remaining words walk.rising) front c.if-self.true))

-- nothing is after the forward cursor
pub returns-in_err-page-2-clause-none : goal.returns-in_err-page-2-clause-none
returns-in_err-page-2-clause-none g c =
    let words = g.L.Look.words c.args.look.now in
    let walk = c.args.self.now in
    rw c.from_residual-in_err-page-2.ensures (turned_up walk.back (remaining words walk.rising) (coming words walk.falling) c.if-self.false ∙ c.in_err-page-2.ensures.none)

pub returns-clause-turned : goal.returns-clause-turned
returns-clause-turned g c = sym c.if-self.false

pub returns-clause-some : goal.returns-clause-some
returns-clause-some g c =
    let words = g.L.Look.words c.args.look.now c.in_ok-page-2.page in
    omega (arith, count_up words c.in_ok-page-2.at, c.in_ok-page-2.ensures.left)

pub returns-clause-parts : goal.returns-clause-parts
returns-clause-parts g c =
    let words = g.L.Look.words c.args.look.now in
    let walk = c.args.self.now in
    let rest = remaining words c.step_leaf-2.new.self in
    let here = drop c.in_ok-page-2.at (items_of (words c.in_ok-page-2.page)) in
    turned_up walk.back (remaining words walk.rising) (coming words walk.falling) c.if-self.false
    ∙ c.in_ok-page-2.ensures.parts
    ∙ ap (λ (xs : List Pair). here ++ xs) (sym (turned_up walk.back rest (coming words walk.falling) c.if-self.false))
