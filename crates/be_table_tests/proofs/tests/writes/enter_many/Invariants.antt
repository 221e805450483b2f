use Rattle.be_table_tests.specs.Resting.{StaysSeat}
use Rattle.be_table_tests.proofs.tests.writes.enter_many.Given as goal

abbrev pub invariant-loop : goal.invariant-loop
invariant-loop l = StaysSeat l.table l.fn.seat l.seat
