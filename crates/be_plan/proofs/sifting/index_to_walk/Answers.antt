use Rattle.be_plan.proofs.sifting.index_to_walk.Goals as goal

pub estimate-requires : goal.estimate-requires
estimate-requires g c = (g.volume, c.requires.1)

pub kind_of-requires : goal.kind_of-requires
kind_of-requires g c = (g.volume, c.estimate.ensures.answers g.volume c.requires.1)
