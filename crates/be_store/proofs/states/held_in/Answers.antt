use Rattle.be_store.proofs.states.held_in.Goals as goal

pub whole-reader-requires : goal.whole-reader-requires
whole-reader-requires g c = record { version = (g.volume, c.requires.1) }

pub is_held-is_held-requires : goal.is_held-is_held-requires
is_held-is_held-requires g c = (g.volume, c.whole-reader.ensures.answers g.volume c.requires.1)

pub returns-clause-held : goal.returns-clause-held
returns-clause-held g c = c.is_held-is_held.ensures.answer g.volume (c.whole-reader.ensures.answers g.volume c.requires.1)
