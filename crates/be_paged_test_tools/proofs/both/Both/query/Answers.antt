use Rattle.be_paged_test_tools.proofs.Since.{stays_since}
use Rattle.be_paged_test_tools.proofs.both.Both.query.Goals as goal

pub invariant_of-result : goal.invariant_of-result
invariant_of-result c =
    stays_since _ _ _ _ c.self.inside.page c.self.inside.plain c.in_ok-room.ensures.unchanged.page_state c.in_ok-room.ensures.unchanged.words c.self.invariant
