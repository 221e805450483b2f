use Rattle.std.proofs.Common.{Ok, Err, inr, sym, ap, ◌∙◌}
use Rattle.be_value.specs.declared.refusals.Refusal.TheVariants.{NotCovered}
use Rattle.be_volume.specs.Query.{has_index}
use Rattle.be_plan.specs.Cover.{choice, or_not_covered}
use Rattle.be_plan.proofs.Choice.{choice_reported, covers_placed}
use Rattle.be_plan.proofs.choosing.choose_from.Goals as goal

pub returns-in-Some-clause-covers : goal.returns-in-Some-clause-covers
returns-in-Some-clause-covers g c =
    (choice_reported (has_index g.volume) c.args.query.now (Ok c.in-Some.cover)
    (ap or_not_covered (ap (choice (has_index g.volume) 0) (sym c.tree.ensures.tree) ∙ sym c.in_ok-cover.ensures.choice ∙ c.in-Some.is))).0.0

pub returns-in-Some-clause-places : goal.returns-in-Some-clause-places
returns-in-Some-clause-places g c =
    covers_placed (has_index g.volume) c.args.query.now c.in-Some.cover.picks
    (choice_reported (has_index g.volume) c.args.query.now (Ok c.in-Some.cover)
    (ap or_not_covered (ap (choice (has_index g.volume) 0) (sym c.tree.ensures.tree) ∙ sym c.in_ok-cover.ensures.choice ∙ c.in-Some.is))).0.0

pub returns-in-Some-clause-rests : goal.returns-in-Some-clause-rests
returns-in-Some-clause-rests g c =
    (choice_reported (has_index g.volume) c.args.query.now (Ok c.in-Some.cover)
    (ap or_not_covered (ap (choice (has_index g.volume) 0) (sym c.tree.ensures.tree) ∙ sym c.in_ok-cover.ensures.choice ∙ c.in-Some.is))).0.1

pub returns-in-None-clause-refused : goal.returns-in-None-clause-refused
returns-in-None-clause-refused g c =
    (choice_reported (has_index g.volume) c.args.query.now (Err NotCovered)
    (inr (ap or_not_covered (ap (choice (has_index g.volume) 0) (sym c.tree.ensures.tree) ∙ sym c.in_ok-cover.ensures.choice ∙ c.in-None.is)))).1
