use Rattle.be_paged_test_tools.proofs.both.Both.write.Given as goal

abbrev pub ghost-apply_pages : goal.ghost-apply_pages
ghost-apply_pages a = a._plain.now
