use Rattle.std.proofs.Common.{◌≡◌, ◌+◌, ◌-◌, ℕ, sym, ap, ◌∙◌, subst, arith}
use Rattle.be_query.specs.Grammar.{Formula, Or, comparisons}
use Rattle.be_query.specs.View.{formula}
use Rattle.be_query.specs.declared.tree.Tree.{Tree}
use Rattle.be_plan.specs.Spine.{IsUnderOr, LiesIn}
use Rattle.be_plan.proofs.Spines.{left_under, right_under}
use Rattle.be_plan.proofs.spine.+cut_after.Goals as goal

pub returns-then-pick-from-clause-under : goal.returns-then-pick-from-clause-under
returns-then-pick-from-clause-under t c = λ whole u.
    let a = formula c.in-Or.a.value in
    let b = formula c.in-Or.b.value in
    let P : Formula → Type 0 = λ f. IsUnderOr whole 0 f in
    let split : formula c.args.tree.now ≡ Or a b = ap (λ (t : Tree). formula t) c.in-Or.is in
    let same : formula c.deref-then-pick-from.result.now ≡ a = ap (λ (t : Tree). formula t) c.deref-then-pick-from.ensures in
    c.cut_after.ensures.under whole (subst P (sym same) (left_under whole 0 a b (subst P split u)))

pub returns-then-pick-from-clause-lies : goal.returns-then-pick-from-clause-lies
returns-then-pick-from-clause-lies t c = λ whole u.
    let a = formula c.in-Or.a.value in
    let b = formula c.in-Or.b.value in
    let P : Formula → Type 0 = λ f. IsUnderOr whole 0 f in
    let split : formula c.args.tree.now ≡ Or a b = ap (λ (t : Tree). formula t) c.in-Or.is in
    let same : formula c.deref-then-pick-from.result.now ≡ a = ap (λ (t : Tree). formula t) c.deref-then-pick-from.ensures in
    c.cut_after.ensures.lies whole (subst P (sym same) (left_under whole 0 a b (subst P split u)))

pub returns-else-pick-from-clause-lies : goal.returns-else-pick-from-clause-lies
returns-else-pick-from-clause-lies t c = λ whole u.
    let a = formula c.in-Or.a.value in
    let b = formula c.in-Or.b.value in
    let P : Formula → Type 0 = λ f. IsUnderOr whole 0 f in
    let split : formula c.args.tree.now ≡ Or a b = ap (λ (t : Tree). formula t) c.in-Or.is in
    let ends : c.args.end ≡ comparisons a + comparisons b = c.requires.end ∙ ap comparisons split in
    let counted : c.count.result ≡ comparisons b = c.count.ensures ∙ ap (λ (t : Tree). comparisons (formula t)) c.deref.ensures in
    let same : formula c.deref-in-Or.result.now ≡ b = ap (λ (t : Tree). formula t) c.deref-in-Or.ensures in
    let at : 0 + comparisons a ≡ c.args.end - c.count.result = omega (arith, ends, counted) in
    let Q : ℕ → Type 0 = λ n. IsUnderOr whole n b in
    let R : Formula → Type 0 = λ f. LiesIn whole c.args.pick (c.args.end - c.count.result) f in
    subst R (sym same) (record {
      under = subst Q at (right_under whole 0 a b (subst P split u));
      first = omega (arith, c.if-pick-from.false);
      last = omega (arith, ends, counted, c.requires.within);
    })
