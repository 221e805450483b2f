use Rattle.be_plan.proofs.coverage.rests_on.Goals as goal

pub kind_of-requires : goal.kind_of-requires
kind_of-requires g c = (g.volume, c.requires.1.0)
