use Rattle.be_order_tests.proofs.tests.Asked.page.Given as goal

abbrev pub ghost-ordered_prepared_into : goal.ghost-ordered_prepared_into
ghost-ordered_prepared_into a = a.source.now
