use Rattle.std.proofs.Common.{Ok, Err, inr, sym, ap, ◌∙◌}
use Rattle.be_value.specs.declared.refusals.Refusal.TheVariants.{NotCovered}
use Rattle.be_plan.specs.Cover.{choice, is_listed, or_not_covered}
use Rattle.be_plan.proofs.Choice.{choice_reported, covers_placed}
use Rattle.be_plan.proofs.listing.choose.Goals as goal

pub returns-in-Some-clause-covers : goal.returns-in-Some-clause-covers
returns-in-Some-clause-covers c =
    (choice_reported (is_listed c.args.indices.now) c.args.query.now (Ok c.in-Some.cover)
    (ap or_not_covered (ap (choice (is_listed c.args.indices.now) 0) (sym c.tree.ensures.tree) ∙ sym c.in_ok-cover.ensures.choice ∙ c.in-Some.is))).0.0

pub returns-in-Some-clause-places : goal.returns-in-Some-clause-places
returns-in-Some-clause-places c =
    covers_placed (is_listed c.args.indices.now) c.args.query.now c.in-Some.cover.picks
    (choice_reported (is_listed c.args.indices.now) c.args.query.now (Ok c.in-Some.cover)
    (ap or_not_covered (ap (choice (is_listed c.args.indices.now) 0) (sym c.tree.ensures.tree) ∙ sym c.in_ok-cover.ensures.choice ∙ c.in-Some.is))).0.0

pub returns-in-Some-clause-rests : goal.returns-in-Some-clause-rests
returns-in-Some-clause-rests c =
    (choice_reported (is_listed c.args.indices.now) c.args.query.now (Ok c.in-Some.cover)
    (ap or_not_covered (ap (choice (is_listed c.args.indices.now) 0) (sym c.tree.ensures.tree) ∙ sym c.in_ok-cover.ensures.choice ∙ c.in-Some.is))).0.1

pub returns-in-None-clause-refused : goal.returns-in-None-clause-refused
returns-in-None-clause-refused c =
    (choice_reported (is_listed c.args.indices.now) c.args.query.now (Err NotCovered)
    (inr (ap or_not_covered (ap (choice (is_listed c.args.indices.now) 0) (sym c.tree.ensures.tree) ∙ sym c.in_ok-cover.ensures.choice ∙ c.in-None.is)))).1
