use Rattle.be_script_tests.proofs.tests.plain.page_after.Given as goal

abbrev pub ghost-ordered_into : goal.ghost-ordered_into
ghost-ordered_into a = a.source.now
