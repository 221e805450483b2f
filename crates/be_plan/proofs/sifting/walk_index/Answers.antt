use Rattle.be_query.specs.View.{formula}
use Rattle.be_value.specs.Key.{key}
use Rattle.be_plan.specs.Narrow.{high_of}
use Rattle.be_plan.proofs.Reaching.{on_ok}
use Rattle.be_plan.proofs.Sides.{named_found}
use Rattle.be_plan.proofs.sifting.walk_index.Goals as goal

pub walk_alone-requires : goal.walk_alone-requires
walk_alone-requires g c κs within = (
  within,
  (c.requires.1.0, record { kind_is = c.requires.1.1.kind_is; leaves = c.narrow_alone-rest.ensures.leaves c.args.index.name.now c.requires.1.1.named }),
)

pub returns-clause-has : goal.returns-clause-has
returns-clause-has g c =
    let low = c.narrow_alone-rest.new.range.low.items in
    let high = high_of c.narrow_alone-rest.new.range in
    let name = c.args.index.name.now in
    on_ok c.walk_alone.result (λ within. named_found g.volume (formula c.args.tree.now) name c.args.index.kind low high c.walk_alone.new.found.items
    (g.met.S.Source.sound c.args.source.now g.volume c.requires.1.0) c.requires.1.1.named c.requires.1.1.kind_is
    (λ v n p allows. c.narrow_alone-rest.ensures.keeps name c.requires.1.1.named 0 0 v n p allows (c.open.ensures (key v n))) within)
    c.walk_alone.ensures.has
