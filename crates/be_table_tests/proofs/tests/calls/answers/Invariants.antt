use Rattle.be_table_tests.specs.Resting.{IsResting}
use Rattle.be_table_tests.proofs.tests.calls.answers.Given as goal

abbrev pub invariant-loop-words : goal.invariant-loop-words
invariant-loop-words l = IsResting l.table l.seat
