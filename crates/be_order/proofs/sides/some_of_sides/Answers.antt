use Rattle.std.proofs.Common.{◌≡◌, ◌≤◌, ◌<◌, ◌∙◌, ap, refl, subst, sym}
use Rattle.std.specs.Result.{IfOk}
use Rattle.std.specs.declared.result.Result.{Result}
use Rattle.std.specs.declared.result.Result.TheVariants.{Ok, Err}
use Rattle.be_query.specs.Grammar.{Or, comparisons}
use Rattle.be_query.specs.View.{formula}
use Rattle.be_query.specs.declared.tree.Tree.{Tree}
use Rattle.be_volume.specs.Query.{sat}
use Rattle.be_plan.proofs.Sides.{by_left, by_right, few_left, few_right, less_left}
use Rattle.be_order.proofs.sides.some_of_sides.Goals as goal

tested : {A E : Type 0} {P Q : A → Type 0} (r : Result A E) → ((a : A) → P a → Q a) → IfOk r P → IfOk r Q
tested (Ok a) f h = f a h
tested (Err e) f h = h

pub sides-init : goal.sides-init
sides-init g c = record { stays = refl; answers = c.requires.1.0; few = c.requires.1.1; within = λ n h. h }

pub some_of_part-requires : goal.some_of_part-requires
some_of_part-requires g c κs within =
    let rest = formula c.sides.rest.now in
    let a = formula c.in-Or.a.value in
    let b = formula c.in-Or.b.value in
    let one : rest ≡ Or a b = ap formula c.in-Or.is in
    (within, (c.sides.invariant.answers, subst (λ (t : Tree). comparisons (formula t) ≤ 256) (sym c.deref.ensures) (few_right g.volume rest a b one 256 c.sides.invariant.few)))

pub returns-in_err-some_of_part-clause-stays : goal.returns-in_err-some_of_part-clause-stays
returns-in_err-some_of_part-clause-stays g c = c.some_of_part.ensures.stays ∙ c.sides.invariant.stays

pub returns-then-branch-clause-stays : goal.returns-then-branch-clause-stays
returns-then-branch-clause-stays g c = c.some_of_part.ensures.stays ∙ c.sides.invariant.stays

pub returns-then-branch-clause-some : goal.returns-then-branch-clause-some
returns-then-branch-clause-some g c = λ full.
    let rest = formula c.sides.rest.now in
    let a = formula c.in-Or.a.value in
    let b = formula c.in-Or.b.value in
    let one : rest ≡ Or a b = ap formula c.in-Or.is in
    let some = c.in_ok-some_of_part.ensures.some c.if-branch.true in
    record {
      only = λ n h. c.sides.invariant.within n (by_right g.volume rest a b one n (ap (λ (t : Tree). sat g.volume (formula t) n) (sym c.deref.ensures) ∙ some.only n h));
      once = some.once;
      count = some.count;
    }

pub sides-smaller : goal.sides-smaller
sides-smaller g c =
    let rest = formula c.sides.rest.now in
    let a = formula c.in-Or.a.value in
    let b = formula c.in-Or.b.value in
    let one : rest ≡ Or a b = ap formula c.in-Or.is in
    subst (λ (t : Tree). comparisons (formula t) < comparisons rest) (sym c.deref-rest.ensures) (less_left g.volume rest a b one)

pub sides-preserved : goal.sides-preserved
sides-preserved g c =
    let rest = formula c.sides.rest.now in
    let a = formula c.in-Or.a.value in
    let b = formula c.in-Or.b.value in
    let one : rest ≡ Or a b = ap formula c.in-Or.is in
    let inv = c.sides.invariant in
    let left : c.deref-rest.result.now ≡ c.in-Or.a.value = c.deref-rest.ensures in
    record {
      stays = c.some_of_part.ensures.stays ∙ inv.stays;
      answers = c.some_of_part.ensures.answers;
      few = subst (λ (t : Tree). comparisons (formula t) ≤ 256) (sym left) (few_left g.volume rest a b one 256 inv.few);
      within = λ n h. inv.within n (by_left g.volume rest a b one n (ap (λ (t : Tree). sat g.volume (formula t) n) (sym left) ∙ h));
    }

pub some_of_part-requires-2 : goal.some_of_part-requires-2
some_of_part-requires-2 g c κs within = (within, (c.sides.invariant.answers, c.sides.invariant.few))

pub returns-clause-stays : goal.returns-clause-stays
returns-clause-stays g c = c.some_of_part-2.ensures.stays ∙ c.sides.invariant.stays

pub returns-clause-some : goal.returns-clause-some
returns-clause-some g c = tested c.some_of_part-2.result (λ a some yes.
    let found = some yes in
    record { only = λ n h. c.sides.invariant.within n (found.only n h); once = found.once; count = found.count }) c.some_of_part-2.ensures.some
