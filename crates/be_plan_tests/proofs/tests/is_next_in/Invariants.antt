use Rattle.be_plan_tests.proofs.tests.is_next_in.Given as goal

abbrev pub ghost-is_next : goal.ghost-is_next
ghost-is_next a = a.source
