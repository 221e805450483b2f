use Rattle.be_paged_tests.proofs.tests.costs.count_get.Goals as goal

pub get-value-requires : goal.get-value-requires
get-value-requires c = record { version = (c.both.inside.plain, rw c.new-look.ensures c.both.invariant.0) }
