use Rattle.std.proofs.Common.{◌≡◌, ◌≤◌, Ok, subst, map, drop, length, sym, ap, ◌∙◌, ◌∷◌, ◌+◌, suc, add-one, drop-cons, arith}
use Rattle.be_query.specs.Rpn.{rpn, rpn_from, item_of, stack_of}
use Rattle.be_query.specs.Grammar.{comparisons}
use Rattle.be_query.specs.Printing.{IsKept}
use Rattle.be_query.specs.View.{formula}
use Rattle.be_query.proofs.Few.{few_built}
use Rattle.be_query.proofs.Worked.{item_kept, one_kept}
use Rattle.std.proofs.Math.Seq.{drop-length}
use Rattle.be_query.proofs.rpn.from_rpn.Goals as goal

pub items-preserved : goal.items-preserved
items-preserved c =
    let i = c.items.invariant in
    let item = c.index-items-at.result in
    let here : drop c.items.at c.args.items.now ≡ item ∷ drop (c.items.at + 1) c.args.items.now = (
    drop-cons c.args.items.now c.items.at item c.items-test.true
    ∙ ap (λ x. x ∷ drop (suc c.items.at) c.args.items.now) (sym c.index-items-at.is)
    ∙ ap (λ k. item ∷ drop k c.args.items.now) (sym (add-one c.items.at))
    ) in
    record {
      worked = ap (λ r. rpn_from (c.items.at + 1) r (map item_of (drop (c.items.at + 1) c.args.items.now))) (sym c.in_ok-take_item.ensures.ok)
          ∙ sym (ap (λ xs. rpn_from c.items.at (Ok (stack_of c.items.stack)) (map item_of xs)) here)
          ∙ i.worked;
      kept = item_kept c.items.at (stack_of c.items.stack).0 (stack_of c.items.stack).1 (item_of item) (stack_of c.take_item.new.stack) i.kept c.know_item.ensures c.in_ok-take_item.ensures.ok;
    }

pub invariant_of-result : goal.invariant_of-result
invariant_of-result c =
    let all : c.items.at ≡ length c.args.items.now = omega arith in
    let e : rpn (map item_of c.args.items.now) ≡ Ok (formula c.in_ok-whole.whole) = (
    sym c.items.invariant.worked
    ∙ ap (λ n. rpn_from n (Ok (stack_of c.items.stack)) (map item_of (drop n c.args.items.now))) all
    ∙ ap (λ xs. rpn_from (length c.args.items.now) (Ok (stack_of c.items.stack)) (map item_of xs)) (drop-length c.args.items.now)
    ∙ c.in_ok-whole.ensures.ok
    ) in
    let w = formula c.in_ok-whole.whole in
    let kept : (comparisons w ≤ 256) × IsKept w = (few_built (map item_of c.args.items.now) w e, one_kept (length c.args.items.now) (stack_of c.items.stack).1 w c.items.invariant.kept c.in_ok-whole.ensures.ok) in
    subst (λ t. (comparisons (formula t) ≤ 256) × IsKept (formula t)) (sym c.in_ok-tree.ensures.ok) kept
