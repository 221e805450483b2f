use Rattle.be_paged_test_tools.proofs.writing.apply_pages.Goals as goal

pub returns-clause-ok : goal.returns-clause-ok
returns-clause-ok g c = c.apply.ensures.ok

pub returns-clause-err : goal.returns-clause-err
returns-clause-err g c = c.apply.ensures.err
