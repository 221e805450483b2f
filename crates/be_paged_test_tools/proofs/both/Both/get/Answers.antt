use Rattle.be_paged_test_tools.proofs.Since.{stays_since}
use Rattle.be_paged_test_tools.proofs.both.Both.get.Goals as goal

pub invariant_of-self : goal.invariant_of-self
invariant_of-self c =
    stays_since _ _ _ _ c.self.inside.page c.self.inside.plain c.get-value.ensures.unchanged.page_state c.get-value.ensures.unchanged.words c.self.invariant
