use Rattle.be_order_tests.proofs.tests.Asked.first_from.Given as goal

abbrev pub ghost-first_prepared_into : goal.ghost-first_prepared_into
ghost-first_prepared_into a = a.source.now
