use Rattle.std.proofs.Common.{◌≡◌, ◌∙◌, suc, ◌+◌, ◌-◌, ◌++◌, take, drop, ap, arith}
use Rattle.be_tree.proofs.settling.leave_one.Goals as goal

pub returns-then-cut-eq2 : goal.returns-then-cut-eq2
returns-then-cut-eq2 c =
    let xs = c.args.slots.now.items in
    let at = c.args.cut.at in
    let e : suc at ≡ at + c.args.cut.gone - 1 = omega (arith, c.if-cut-eq2.true) in
    c.remove.ensures.items ∙ ap (λ n. take at xs ++ drop n xs) e
