use Rattle.std.proofs.Common.{ap, subst}
use Rattle.std.specs.Option.{option_copied, option_map}
use Rattle.std.specs.declared.option.Option.{Option}
use Rattle.be_query.specs.Grammar.{Formula}
use Rattle.be_query.specs.View.{formula}
use Rattle.be_value.specs.Key.{key}
use Rattle.be_plan.specs.Narrow.{LeavesRest, high_of}
use Rattle.be_plan.specs.Prepared.{Decides}
use Rattle.be_plan.proofs.prepared.range_decides.Goals as goal

pub returns-in-None : goal.returns-in-None
returns-in-None c = λ e.
    let low = c.narrow_alone.new.range.low.items in
    let high = high_of c.narrow_alone.new.range in
    let P : Formula → Type 0 = λ f. Decides f c.args.kind low high in
    subst P c.tree.ensures.tree record {
      leaves = λ name on.
          let R : Option Formula → Type 0 = λ r. LeavesRest (formula c.tree.result.now) name c.args.kind low high r in
          subst R (ap (λ r. option_map formula (option_copied r)) c.in-None.is) (c.narrow_alone.ensures.leaves name on);
      keeps = λ name on value node pair allows. c.narrow_alone.ensures.keeps name on 0 0 value node pair allows (c.open.ensures (key value node));
    }
