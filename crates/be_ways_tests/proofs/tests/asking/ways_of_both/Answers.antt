use Rattle.be_paged_test_tools.proofs.Since.{stays_since}
use Rattle.be_ways_tests.proofs.tests.asking.ways_of_both.Goals as goal

pub invariant_of-result : goal.invariant_of-result
invariant_of-result c =
    stays_since _ _ _ _ c.both.inside.page c.both.inside.plain c.ways_of_pages-room.ensures.unchanged.page_state c.ways_of_pages-room.ensures.unchanged.words c.both.invariant
