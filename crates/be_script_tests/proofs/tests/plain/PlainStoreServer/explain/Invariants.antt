use Rattle.be_script_tests.proofs.tests.plain.PlainStoreServer.explain.Given as goal

abbrev pub ghost-choose_from : goal.ghost-choose_from
ghost-choose_from a = a.source.now
