use Rattle.be_table_tests.proofs.tests.writes.apply_to.Given as goal

abbrev pub ghost-apply : goal.ghost-apply
ghost-apply g a = g.volume
