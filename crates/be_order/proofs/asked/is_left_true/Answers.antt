use Rattle.std.proofs.Common.{◌∙◌, subst}
use Rattle.std.specs.Option.{option_copied}
use Rattle.std.specs.Prelude.{IfSome}
use Rattle.be_query.specs.View.{formula}
use Rattle.be_order.specs.Asked.{Lists}
use Rattle.be_order.proofs.Listed.{looked_up}
use Rattle.be_order.proofs.asked.is_left_true.Goals as goal

pub returns-in-Some-clause-answer : goal.returns-in-Some-clause-answer
returns-in-Some-clause-answer g c =
    let f = formula c.args.left.tree.now in
    let lists = subst (λ o. IfSome (option_copied o) (Lists g.volume f)) c.in-Some.is c.requires.1.1.1 in
    c.is_ok.ensures.value ∙ looked_up g.volume f c.in-Some.nodes.now c.args.node lists c.binary_search.result c.binary_search.ensures.position
