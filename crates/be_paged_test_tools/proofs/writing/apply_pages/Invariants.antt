use Rattle.be_paged_test_tools.proofs.writing.apply_pages.Given as goal

abbrev pub ghost-apply : goal.ghost-apply
ghost-apply g a = g.volume
