use Rattle.std.proofs.Common.{◌≡◌, true, inl, subst}
use Rattle.std.specs.Result.{IfErr, OnOk}
use Rattle.std.specs.declared.result.Result.{Result}
use Rattle.std.specs.declared.result.Result.TheVariants.{Ok, Err}
use Rattle.be_change.specs.Collecting.{IsOfRightKind}
use Rattle.be_change.proofs.changes.Change.set.Goals as goal

whatever : {T E P : Type 0} (r : Result T E) → P → OnOk r P
whatever (Ok x) p = p
whatever (Err e) p = tt

weaker : {T E : Type 0} (r : Result T E) {P Q : E → Type 0} → ((e : E) → P e → Q e) → IfErr r P → IfErr r Q
weaker (Ok x) f p = tt
weaker (Err e) f p = f e p

pub returns-clause-err : goal.returns-clause-err
returns-clause-err c =
    let right = subst (λ k. c.args.self.now.checks ≡ true → IsOfRightKind c.args.self.now c.args.name k) c.kind.ensures c.in_ok-check_kind.ensures.right in
    weaker c.collect.result (λ e none. (none.0, inl (none.1, right))) c.collect.ensures.err

pub returns-clause-kind : goal.returns-clause-kind
returns-clause-kind c =
    whatever c.collect.result
    (subst (λ k. c.args.self.now.checks ≡ true → IsOfRightKind c.args.self.now c.args.name k) c.kind.ensures c.in_ok-check_kind.ensures.right)
