use denote.Text.{Utf8}
use denote.Shadow.{shadow}
use Rattle.be_paged_tests.proofs.tests.replies.Given as goal

abbrev pub invariant-loop-request : goal.invariant-loop-request
invariant-loop-request l = (goal.iterator-loop-request).can_next l.request-iterator × (goal.iterator-loop-request).is_finite l.request-iterator × shadow (Utf8 l.expected)
