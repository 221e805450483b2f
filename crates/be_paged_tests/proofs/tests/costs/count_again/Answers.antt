use Rattle.be_paged_reading.proofs.Versions.{version_since}
use Rattle.be_paged_tests.proofs.tests.costs.count_again.Goals as goal

pub answer_decided-requires : goal.answer_decided-requires
answer_decided-requires c = record { version = (c.both.inside.plain, rw c.new-look.ensures c.both.invariant.0) }

pub answer_decided-requires-2 : goal.answer_decided-requires-2
answer_decided-requires-2 c = record { version = (c.both.inside.plain, version_since _ _ _ _ c.both.inside.page c.both.inside.plain c.answer_decided.ensures.unchanged.page_state c.answer_decided.ensures.unchanged.words (rw c.new-look.ensures c.both.invariant.0)) }
