use Rattle.std.proofs.Common.{arith}
use Rattle.be_value.specs.Key.{key}
use Rattle.be_query.specs.Grammar.{comparisons}
use Rattle.be_query.specs.View.{formula}
use Rattle.be_plan.proofs.Sides.{seen_allows}
use Rattle.be_plan.proofs.bounding.KeyBounds.narrow.Goals as goal

pub returns-clause-bounds : goal.returns-clause-bounds
returns-clause-bounds c =
    let f = formula c.args.tree.now in
    record {
      keeps = λ s value node pair seen holds. c.narrow_beside.ensures.keeps (comparisons f) 0 value node pair (seen_allows s f c.args.name.now node value (comparisons f) 0 (omega arith) holds seen) (c.open.ensures (key value node));
      leaves = c.narrow_beside.ensures.leaves;
    }
