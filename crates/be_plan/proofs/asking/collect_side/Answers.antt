use Rattle.std.proofs.Common.{refl, sym, ◌∙◌, inr, None, Some}
use Rattle.be_query.specs.View.{formula}
use Rattle.be_plan.proofs.Reaching.{on_ok}
use Rattle.be_plan.proofs.Sides.{by_memory, named_rests}
use Rattle.be_plan.proofs.asking.collect_side.Goals as goal

pub kind_of-requires : goal.kind_of-requires
kind_of-requires g c = (g.volume, c.requires.1.0)

pub returns-in_default-kind_of-clause-refused : goal.returns-in_default-kind_of-clause-refused
returns-in_default-kind_of-clause-refused g c =
    inr (refl, named_rests g.volume (formula c.args.tree.now) c.in-Some.name.now None c.in-Some.ensures (sym c.in_default-kind_of.is ∙ c.kind_of.ensures.answer g.volume c.requires.1.0))

pub walk_index-requires : goal.walk_index-requires
walk_index-requires g c κs within = (
  within,
  (c.kind_of.ensures.answers g.volume c.requires.1.0, record { named = c.in-Some.ensures; kind_is = sym (c.in-Some-kind_of.ensures.answer g.volume c.requires.1.0) }),
)

pub returns-clause-covered : goal.returns-clause-covered
returns-clause-covered g c =
    on_ok c.walk_index.result (λ within. named_rests g.volume (formula c.args.tree.now) c.in-Some.name.now (Some c.in-Some-kind_of.kind) c.in-Some.ensures (c.in-Some-kind_of.ensures.answer g.volume c.requires.1.0))
    c.walk_index.ensures.has

pub returns-clause-refused : goal.returns-clause-refused
returns-clause-refused g c = by_memory _ _ c.walk_index.result c.walk_index.ensures.memory
