use Rattle.std.proofs.Common.{inl, inr}
use Rattle.be_plan.proofs.Marked.{nothing_in}
use Rattle.be_plan.proofs.sifting.nodes_of_index.Goals as goal

pub returns-clause-only : goal.returns-clause-only
returns-clause-only g c = λ n there.
    elim (c.walk_index.ensures.collects.only n (c.in_ok-put_in_order.ensures.only n there)) [
      | inl old ↦ absurd (nothing_in _ n c.in_ok-nodes.ensures.items old)
      | inr is ↦ is
    ]

pub returns-clause-has : goal.returns-clause-has
returns-clause-has g c = λ n holds. c.in_ok-put_in_order.ensures.keeps n (c.in_ok-walk_index.ensures.has n holds)
