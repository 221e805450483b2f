use Rattle.be_store.proofs.states.read_on.Goals as goal

pub whole-reader-requires : goal.whole-reader-requires
whole-reader-requires g c = record { version = (g.volume, c.requires.1) }
