use Rattle.std.proofs.Common.{◌∙◌, sym}
use Rattle.std.specs.Result.{IfOk}
use Rattle.std.specs.declared.result.Result.{Result}
use Rattle.std.specs.declared.result.Result.TheVariants.{Ok, Err}
use Rattle.be_query.specs.View.{formula}
use Rattle.be_order.proofs.Enough.{some_any}
use Rattle.be_order.proofs.Numbered.{any_from}
use Rattle.be_order.proofs.sides.some_of.Goals as goal

tested : {A E : Type 0} {P Q : A → Type 0} (r : Result A E) → ((a : A) → P a → Q a) → IfOk r P → IfOk r Q
tested (Ok a) f h = f a h
tested (Err e) f h = h

pub returns-then-branch-clause-any : goal.returns-then-branch-clause-any
returns-then-branch-clause-any g c = λ _.
    any_from g.volume (g.met.S.Source.sound c.args.source.now g.volume c.requires.1.0) (formula c.args.tree.now) c.args.most c.first_by_numbers.new.found.items
    (sym (c.is_covered.ensures.answer g.volume c.requires.1.0) ∙ c.if-not-is_covered.false) (c.in_ok-first_by_numbers.ensures.first c.if-branch.true)

pub returns-then-branch-2-clause-any : goal.returns-then-branch-2-clause-any
returns-then-branch-2-clause-any g c = λ _.
    any_from g.volume (g.met.S.Source.sound c.args.source.now g.volume c.requires.1.0) (formula c.args.tree.now) c.args.most c.first_of_side.new.found.items
    (sym (c.is_covered.ensures.answer g.volume c.requires.1.0) ∙ c.if-not-is_covered.false) (c.in_ok-first_of_side.ensures.first c.if-branch-2.true)

pub returns-clause-any : goal.returns-clause-any
returns-clause-any g c = tested c.some_of_sides.result (λ a some yes.
    some_any g.volume (g.met.S.Source.sound c.args.source.now g.volume c.requires.1.0) (formula c.args.tree.now) c.args.most c.some_of_sides.new.found.items
    (sym (c.is_covered.ensures.answer g.volume c.requires.1.0) ∙ c.if-not-is_covered.false) (some yes)) c.some_of_sides.ensures.some
