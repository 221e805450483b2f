use Rattle.std.proofs.Common.{ap, subst, sym}
use Rattle.be_query.specs.View.{formula}
use Rattle.be_volume.specs.Query.{has_index}
use Rattle.be_plan.specs.Covering.{IsChoice}
use Rattle.be_plan.proofs.Choice.{both_choice, either_choice, left_choice}
use Rattle.be_plan.proofs.fewest.+fewest_part.Goals as goal

pub returns-then-has_few-clause-choice : goal.returns-then-has_few-clause-choice
returns-then-has_few-clause-choice g t c = λ volume is whole part.
    left_choice (has_index volume) whole c.args.at (formula c.args.tree.now) (formula c.deref.result.now) (formula c.in-And.a.value) (formula c.in-And.b.value) (ap formula c.deref.ensures)
    c.in_ok-left-in-And.left.cover (c.in_ok-left-in-And.ensures.choice volume is whole) (ap formula c.in-And.is) part (c.has_few.ensures c.if-has_few.true)

pub returns-in_ok-right-in-And-clause-choice : goal.returns-in_ok-right-in-And-clause-choice
returns-in_ok-right-in-And-clause-choice g t c = λ volume is whole part.
    subst (IsChoice (has_index volume) whole c.args.at (formula c.args.tree.now)) (sym c.cheaper-cover.ensures)
    (both_choice (has_index volume) whole c.args.at (formula c.args.tree.now) (formula c.deref.result.now) (formula c.in-And.a.value) (formula c.in-And.b.value) (ap formula c.deref.ensures)
    c.in_ok-left-in-And.left.cover (c.in_ok-left-in-And.ensures.choice volume is whole)
    (formula c.deref-in-And.result.now) (ap formula c.deref-in-And.ensures) c.in_ok-right-in-And.right.cover c.in_ok-left-in-And.left.end c.in_ok-left-in-And.ensures.end
    (c.in_ok-right-in-And.ensures.choice volume (c.in_ok-left-in-And.ensures.answers volume is) whole) (ap formula c.in-And.is) part)

pub returns-in_ok-cover-in-Or-clause-choice : goal.returns-in_ok-cover-in-Or-clause-choice
returns-in_ok-cover-in-Or-clause-choice g t c = λ volume is whole part.
    either_choice (has_index volume) whole c.args.at (formula c.args.tree.now) (formula c.deref-in-Or.result.now) (formula c.in-Or.a.value) (formula c.in-Or.b.value) (ap formula c.deref-in-Or.ensures)
    c.in_ok-left-in-Or.left.cover (c.in_ok-left-in-Or.ensures.choice volume is whole)
    (formula c.deref-in-Or-3.result.now) (ap formula c.deref-in-Or-3.ensures) c.in_ok-right-in-Or.right.cover c.in_ok-left-in-Or.left.end c.in_ok-left-in-Or.ensures.end
    (c.in_ok-right-in-Or.ensures.choice volume (c.in_ok-left-in-Or.ensures.answers volume is) whole) c.in_ok-cover-in-Or.cover c.in_ok-cover-in-Or.ensures (ap formula c.in-Or.is) part
