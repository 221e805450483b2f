use Rattle.std.proofs.Common.{Bool, is_ge, not, ap, sym, subst, ◌∙◌}
use Rattle.std.specs.Option.{option_copied}
use Rattle.be_tree_reading.specs.Page.{item_at}
use Rattle.be_tree_reading.specs.Walk.{end_key, is_before_end}
use Rattle.be_tree_reading.specs.Words.{IsFirstOf}
use Rattle.be_tree_reading.proofs.Walks.{not_past}
use Rattle.be_tree_reading.proofs.ordered.is_within.Goals as goal

pub order_at-requires-clause-first : goal.order_at-requires-clause-first
order_at-requires-clause-first g c =
    let way = c.args.way in
    subst (λ (b : Bool). IsFirstOf (end_key b way.low.now (option_copied way.high)) c.args.first) c.if-way.true c.requires.first

pub is_past_at-requires-clause-first : goal.is_past_at-requires-clause-first
is_past_at-requires-clause-first g c =
    let way = c.args.way in
    subst (λ (b : Bool). IsFirstOf (end_key b way.low.now (option_copied way.high)) c.args.first) c.if-way.false c.requires.first

pub returns-then-way-clause-within : goal.returns-then-way-clause-within
returns-then-way-clause-within g c =
    let way = c.args.way in
    let key = (item_at (g.L.Look.words c.args.look.now c.args.page) c.args.at).key in
    c.is_ge.ensures ∙ ap is_ge c.order_at.ensures.order ∙ ap (λ (b : Bool). is_before_end b way.low.now (option_copied way.high) key) (sym c.if-way.true)

pub returns-else-way-clause-within : goal.returns-else-way-clause-within
returns-else-way-clause-within g c =
    let way = c.args.way in
    let key = (item_at (g.L.Look.words c.args.look.now c.args.page) c.args.at).key in
    ap not c.is_past_at.ensures.past ∙ not_past (option_copied way.high) key ∙ ap (λ (b : Bool). is_before_end b way.low.now (option_copied way.high) key) (sym c.if-way.false)
