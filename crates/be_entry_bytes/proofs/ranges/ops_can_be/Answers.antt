use Rattle.std.proofs.Common.{◌++◌, ◌∷◌, [], All, take, sym, ap, ◌∙◌, subst, arith}
use Rattle.std.proofs.lemmas.List.{take_more, take_all}
use Rattle.std.proofs.lemmas.List.Elements.{All-push}
use Rattle.be_entry_bytes.specs.Encoding.{CanBeOp}
use Rattle.be_entry_bytes.proofs.ranges.ops_can_be.Goals as goal

pub loop-op-preserved : goal.loop-op-preserved
loop-op-preserved c =
    let ops = c.args.ops.now in let k = c.loop-op.op-index in let op = c.op-item.result in
    subst (All CanBeOp) (sym (take_more ops k op c.loop-op-test.true ∙ ap (λ x. take k ops ++ x ∷ []) (sym c.op-item.is)))
    (All-push CanBeOp (take k ops) op c.loop-op.invariant c.op_can_be.ensures)

pub returns : goal.returns
returns c = subst (All CanBeOp) (take_all c.loop-op.op-index c.args.ops.now (omega (arith, c.loop-op-test.false))) c.loop-op.invariant
