use denote.Text.{Utf8}
use denote.Shadow.{shadow}
use Rattle.be_test_tools.proofs.lines.replies.Given as goal

abbrev pub invariant-loop-request : goal.invariant-loop-request
invariant-loop-request g l = (goal.iterator-loop-request g).can_next l.request-iterator × (goal.iterator-loop-request g).is_finite l.request-iterator × shadow (Utf8 l.expected)
