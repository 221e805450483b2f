use Rattle.be_paged_tests.proofs.tests.costs.count_row.Goals as goal

pub columns-needed-requires-clause-version : goal.columns-needed-requires-clause-version
columns-needed-requires-clause-version c = (c.both.inside.plain, rw c.new-look.ensures c.both.invariant.0)
