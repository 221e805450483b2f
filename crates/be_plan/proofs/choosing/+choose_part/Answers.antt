use Rattle.be_plan.proofs.choosing.+choose_part.Goals as goal

pub returns-in-Leaf-clause-still : goal.returns-in-Leaf-clause-still
returns-in-Leaf-clause-still g t c = (c.requires.volume.0, c.kind_of.ensures.answers _ c.requires.volume.1)
