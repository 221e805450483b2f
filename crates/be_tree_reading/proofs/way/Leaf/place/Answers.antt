use Rattle.std.proofs.Common.{◌+◌, ◌-◌, ◌<◌, Bool, ap, sym, subst, arith}
use Rattle.be_tree_reading.specs.Page.{item_place}
use Rattle.be_tree_reading.specs.Walk.{number_from}
use Rattle.be_tree_reading.proofs.way.Leaf.place.Goals as goal

pub overflow_sub-result : goal.overflow_sub-result
overflow_sub-result c = omega (arith, c.requires.left c.if-self.true)

pub overflow_sub-result-then-self : goal.overflow_sub-result-then-self
overflow_sub-result-then-self c = omega (arith, c.requires.left c.if-self.true)

pub overflow_mul-result : goal.overflow_mul-result
overflow_mul-result c =
    let small : c.args.self.at - 1 - c.args.i < 12 = subst (λ (b : Bool). number_from b c.args.self.at c.args.i < 12) c.if-self.true c.requires.in_page in
    omega (arith, small)

pub overflow_add-result : goal.overflow_add-result
overflow_add-result c =
    let small : c.args.self.at - 1 - c.args.i < 12 = subst (λ (b : Bool). number_from b c.args.self.at c.args.i < 12) c.if-self.true c.requires.in_page in
    omega (arith, small)

pub returns-then-self : goal.returns-then-self
returns-then-self c = sym (ap (λ (b : Bool). item_place (number_from b c.args.self.at c.args.i)) c.if-self.true)

pub overflow_add-result-2 : goal.overflow_add-result-2
overflow_add-result-2 c =
    let small : c.args.self.at + c.args.i < 12 = subst (λ (b : Bool). number_from b c.args.self.at c.args.i < 12) c.if-self.false c.requires.in_page in
    omega (arith, small)

pub overflow_mul-result-2 : goal.overflow_mul-result-2
overflow_mul-result-2 c =
    let small : c.args.self.at + c.args.i < 12 = subst (λ (b : Bool). number_from b c.args.self.at c.args.i < 12) c.if-self.false c.requires.in_page in
    omega (arith, small)

pub overflow_add-result-3 : goal.overflow_add-result-3
overflow_add-result-3 c =
    let small : c.args.self.at + c.args.i < 12 = subst (λ (b : Bool). number_from b c.args.self.at c.args.i < 12) c.if-self.false c.requires.in_page in
    omega (arith, small)

pub returns : goal.returns
returns c = sym (ap (λ (b : Bool). item_place (number_from b c.args.self.at c.args.i)) c.if-self.false)
