use Rattle.std.proofs.Common.{inl, inr}
use Rattle.be_query.specs.View.{formula}
use Rattle.be_plan.proofs.Answering.{found_all}
use Rattle.be_plan.proofs.Marked.{nothing_in}
use Rattle.be_plan.proofs.asking.true_nodes_into.Goals as goal

pub returns-clause-answer : goal.returns-clause-answer
returns-clause-answer g c =
    let f = formula c.args.tree.now in
    found_all g.volume f c.put_in_order.new.numbers.items (g.met.S.Source.sound c.args.source.now g.volume c.requires.1.0) c.in_ok-collect.ensures.covered c.in_ok-put_in_order.ensures.rising
    (λ n h. elim (c.collect.ensures.only n (c.in_ok-put_in_order.ensures.only n h)) [ inl old ↦ absurd (nothing_in _ n c.clear.ensures.items old) | inr is ↦ is ])
    (λ n h. c.in_ok-put_in_order.ensures.keeps n (c.in_ok-collect.ensures.has n h))
