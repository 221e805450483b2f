use Rattle.be_query.specs.View.{formula}
use Rattle.be_volume.specs.Query.{has_index}
use Rattle.be_plan.proofs.Choice.{choice_covers, whole_part}
use Rattle.be_plan.proofs.fewest.choose_fewest.Goals as goal

pub returns-clause-covers : goal.returns-clause-covers
returns-clause-covers g c =
    let f = formula c.args.tree.now in
    (choice_covers (has_index g.volume) f c.in_ok-cover.field-0.cover (c.in_ok-cover.ensures.choice g.volume c.requires.1.0 f (whole_part f))).0

pub returns-clause-covered : goal.returns-clause-covered
returns-clause-covered g c =
    let f = formula c.args.tree.now in
    (choice_covers (has_index g.volume) f c.in_ok-cover.field-0.cover (c.in_ok-cover.ensures.choice g.volume c.requires.1.0 f (whole_part f))).1
