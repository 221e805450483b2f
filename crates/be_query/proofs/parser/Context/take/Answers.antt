use Rattle.std.proofs.Common.{ℕ, ap, sym, subst, Result, Ok, Err}
use Rattle.std.specs.Result.{IfOk, IfErr}
use Rattle.be_query.specs.Building.{Operands, Operators, Joints}
use Rattle.be_query.specs.Tokens.{plain}
use Rattle.be_query.specs.View.{stage_of, token_of, formula, TakesToken, Refuses}
use Rattle.be_query.proofs.parser.Context.take.Goals as goal

ok_at : {T E : Type 0} (r : Result T E) (P : ℕ → T → Type 0) (start : ℕ) → IfOk r (λ x. (n : ℕ) → P n x) → IfOk r (P start)
ok_at (Ok x) P start h = h start
ok_at (Err e) P start h = tt

err_at : {T E : Type 0} (r : Result T E) (P : ℕ → E → Type 0) (start : ℕ) → IfErr r (λ e. (n : ℕ) → P n e) → IfErr r (P start)
err_at (Ok x) P start h = tt
err_at (Err e) P start h = h start

pub returns-in-Operand-clause-ok : goal.returns-in-Operand-clause-ok
returns-in-Operand-clause-ok c =
    subst (λ s. IfOk c.take_operand.result (λ x. TakesToken s c.args.self.now c.args.at c.args.start (token_of c.args.token) x c.take_operand.new.context)) (sym (ap stage_of c.in-Operand.is))
    (ok_at c.take_operand.result (λ n x. TakesToken Operands c.args.self.now c.args.at n (token_of c.args.token) x c.take_operand.new.context) c.args.start c.take_operand.ensures.ok)

pub returns-in-Operand-clause-err : goal.returns-in-Operand-clause-err
returns-in-Operand-clause-err c =
    subst (λ s. IfErr c.take_operand.result (Refuses s c.args.self.now c.args.at c.args.start (token_of c.args.token))) (sym (ap stage_of c.in-Operand.is))
    (err_at c.take_operand.result (λ n. Refuses Operands c.args.self.now c.args.at n (token_of c.args.token)) c.args.start c.take_operand.ensures.err)

pub returns-in-Operator-clause-ok : goal.returns-in-Operator-clause-ok
returns-in-Operator-clause-ok c =
    subst (λ s. IfOk c.take_operator.result (λ x. TakesToken s c.args.self.now c.args.at c.args.start (token_of c.args.token) x c.take_operator.new.context)) (sym (ap stage_of c.in-Operator.is))
    (ok_at c.take_operator.result (λ n x. TakesToken (Operators (plain c.in-Operator.name.now)) c.args.self.now c.args.at n (token_of c.args.token) x c.take_operator.new.context) c.args.start c.take_operator.ensures.ok)

pub returns-in-Operator-clause-err : goal.returns-in-Operator-clause-err
returns-in-Operator-clause-err c =
    subst (λ s. IfErr c.take_operator.result (Refuses s c.args.self.now c.args.at c.args.start (token_of c.args.token))) (sym (ap stage_of c.in-Operator.is))
    (err_at c.take_operator.result (λ n. Refuses (Operators (plain c.in-Operator.name.now)) c.args.self.now c.args.at n (token_of c.args.token)) c.args.start c.take_operator.ensures.err)

pub returns-in-Joint-clause-ok : goal.returns-in-Joint-clause-ok
returns-in-Joint-clause-ok c =
    subst (λ s. IfOk c.take_joint.result (λ x. TakesToken s c.args.self.now c.args.at c.args.start (token_of c.args.token) x c.take_joint.new.context)) (sym (ap stage_of c.in-Joint.is))
    (ok_at c.take_joint.result (λ n x. TakesToken (Joints (formula c.in-Joint.tree.value)) c.args.self.now c.args.at n (token_of c.args.token) x c.take_joint.new.context) c.args.start c.take_joint.ensures.ok)

pub returns-in-Joint-clause-err : goal.returns-in-Joint-clause-err
returns-in-Joint-clause-err c =
    subst (λ s. IfErr c.take_joint.result (Refuses s c.args.self.now c.args.at c.args.start (token_of c.args.token))) (sym (ap stage_of c.in-Joint.is))
    (err_at c.take_joint.result (λ n. Refuses (Joints (formula c.in-Joint.tree.value)) c.args.self.now c.args.at n (token_of c.args.token)) c.args.start c.take_joint.ensures.err)
