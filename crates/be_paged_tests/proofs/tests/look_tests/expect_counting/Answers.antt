use Rattle.be_paged_test_tools.proofs.Since.{stays_since}
use Rattle.be_paged_tests.proofs.tests.look_tests.expect_counting.Goals as goal

pub invariant_of-result : goal.invariant_of-result
invariant_of-result c =
    stays_since _ _ _ _ c.both.inside.page c.both.inside.plain c.in_ok-counting.ensures.unchanged.page_state c.in_ok-counting.ensures.unchanged.words c.both.invariant
