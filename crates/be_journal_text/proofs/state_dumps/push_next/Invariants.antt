use Rattle.be_journal_text.proofs.state_dumps.push_next.Given as goal

abbrev pub ghost-next_list : goal.ghost-next_list
ghost-next_list a = a.whole.now
