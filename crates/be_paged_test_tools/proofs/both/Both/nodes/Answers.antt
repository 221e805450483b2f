use Rattle.std.proofs.Common.{◌∙◌}
use Rattle.be_paged_reading.proofs.Versions.{version_since}
use Rattle.be_paged_test_tools.proofs.Since.{stays_since}
use Rattle.be_paged_test_tools.proofs.both.Both.nodes.Goals as goal

pub nodes-requires-2 : goal.nodes-requires-2
nodes-requires-2 c = record { version = (c.self.inside.plain, version_since _ _ _ _ c.self.inside.page c.self.inside.plain c.nodes.ensures.unchanged.page_state c.nodes.ensures.unchanged.words c.self.invariant.0) }

pub invariant_of-self : goal.invariant_of-self
invariant_of-self c =
    let first = c.nodes.ensures.unchanged in
    let second = c.nodes-2.ensures.unchanged in
    stays_since _ _ _ _ c.self.inside.page c.self.inside.plain (second.page_state ∙ first.page_state) (second.words ∙ first.words) c.self.invariant

pub invariant_of-self-3 : goal.invariant_of-self-3
invariant_of-self-3 c =
    stays_since _ _ _ _ c.self.inside.page c.self.inside.plain c.nodes.ensures.unchanged.page_state c.nodes.ensures.unchanged.words c.self.invariant
