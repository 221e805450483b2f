use Rattle.std.proofs.Common.{ap, subst, sym}
use Rattle.be_query.specs.Grammar.{And, Formula}
use Rattle.be_query.specs.View.{formula}
use Rattle.be_query.specs.declared.tree.Tree.{Tree}
use Rattle.be_order.specs.Firsts.{IsNeeded}
use Rattle.be_order.proofs.Needed.{needs_left, needs_right}
use Rattle.be_order.proofs.costs.+cost_of.Goals as goal

pub returns-else-is_some-clause-side : goal.returns-else-is_some-clause-side
returns-else-is_some-clause-side g t c =
    let a = c.in-And.a.value in
    let b = c.in-And.b.value in
    let l = formula c.cost_of-left.result.side.tree.now in
    let r = formula c.cost_of-right.result.side.tree.now in
    let left = subst (λ (x : Tree). IsNeeded (formula x) l) c.deref.ensures c.cost_of-left.ensures.side in
    let right = subst (λ (x : Tree). IsNeeded (formula x) r) c.deref-in-And.ensures c.cost_of-right.ensures.side in
    subst (λ (f : Formula). IsNeeded f (formula c.cheaper_side-side.result.tree.now)) (sym (ap formula c.in-And.is))
    (c.cheaper_side-side.ensures (And (formula a) (formula b)) (needs_left (formula a) (formula b) l left) (needs_right (formula a) (formula b) r right))
