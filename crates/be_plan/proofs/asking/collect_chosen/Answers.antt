use Rattle.std.proofs.Common.{◌≡◌, true, refl, sym, ap, ◌∙◌, inr, is_some, subst}
use Rattle.std.specs.Option.{IfSome}
use Rattle.std.specs.declared.option.Option.{Option}
use Rattle.be_query.specs.View.{formula}
use Rattle.be_volume.specs.Query.{has_index}
use Rattle.be_plan.specs.Cover.{covers}
use Rattle.be_plan.specs.declared.plans.Cover.{Cover}
use Rattle.be_plan.proofs.Reaching.{on_ok}
use Rattle.be_plan.proofs.Sides.{by_memory}
use Rattle.be_plan.proofs.asking.collect_chosen.Goals as goal

pub returns-in_default-clause-refused : goal.returns-in_default-clause-refused
returns-in_default-clause-refused g c = inr (refl, sym c.in_ok-cover.ensures.covered ∙ ap is_some c.in_default.is)

pub walk_picks-requires : goal.walk_picks-requires
walk_picks-requires g c κs within =
    let P : Option Cover → Type 0 = λ x. IfSome x (λ d. covers (has_index g.volume) d.picks (formula c.args.tree.now) ≡ true) in
    (within, (c.requires.1.1, (c.choose_fewest.ensures.answers, subst P c.in-Some.is c.in_ok-cover.ensures.covers)))

pub returns-clause-covered : goal.returns-clause-covered
returns-clause-covered g c = on_ok c.walk_picks.result (λ has. sym c.in_ok-cover.ensures.covered ∙ ap is_some c.in-Some.is) c.walk_picks.ensures.has

pub returns-clause-refused : goal.returns-clause-refused
returns-clause-refused g c = by_memory _ _ c.walk_picks.result c.walk_picks.ensures.memory
