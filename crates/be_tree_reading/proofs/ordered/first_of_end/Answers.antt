use Rattle.std.proofs.Common.{Bool, sym, subst}
use Rattle.std.specs.Option.{option_copied}
use Rattle.be_tree_reading.specs.Walk.{end_key}
use Rattle.be_tree_reading.specs.Words.{IsFirstOf}
use Rattle.be_tree_reading.proofs.ordered.first_of_end.Goals as goal

pub returns-then-way : goal.returns-then-way
returns-then-way c =
    let way = c.args.way in
    subst (λ (b : Bool). IsFirstOf (end_key b way.low.now (option_copied way.high)) c.first_word.result) (sym c.if-way.true) c.first_word.ensures

pub returns-else-way : goal.returns-else-way
returns-else-way c =
    let way = c.args.way in
    subst (λ (b : Bool). IsFirstOf (end_key b way.low.now (option_copied way.high)) c.first_of.result) (sym c.if-way.false) c.first_of.ensures
