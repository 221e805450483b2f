use Rattle.be_store.proofs.ways.ways_at.Goals as goal

pub source-source-requires : goal.source-source-requires
source-source-requires g c = record { version = (g.volume, c.requires.1) }
