use Rattle.be_order_tests.proofs.tests.Asked.any.Given as goal

abbrev pub ghost-any_prepared_into : goal.ghost-any_prepared_into
ghost-any_prepared_into a = a.source.now
