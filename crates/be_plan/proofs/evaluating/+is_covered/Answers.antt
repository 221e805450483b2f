use Rattle.be_plan.proofs.evaluating.+is_covered.Goals as goal

pub returns-in-Leaf-clause-still : goal.returns-in-Leaf-clause-still
returns-in-Leaf-clause-still g t c = (c.requires.0, c.kind_of.ensures.answers _ c.requires.1)
