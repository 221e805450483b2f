use Rattle.be_store.proofs.ordered.kind_at.Goals as goal

pub source-source-requires : goal.source-source-requires
source-source-requires g c = record { version = (g.volume, c.requires.1) }

pub kind_of-kind-requires : goal.kind_of-kind-requires
kind_of-kind-requires g c = (g.volume, c.source-source.ensures.answers g.volume c.requires.1)
