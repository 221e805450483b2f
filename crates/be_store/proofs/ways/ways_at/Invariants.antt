use Rattle.be_store.proofs.ways.ways_at.Given as goal

abbrev pub ghost-ways : goal.ghost-ways
ghost-ways g a = g.volume
