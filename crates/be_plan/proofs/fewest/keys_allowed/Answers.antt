use Rattle.be_plan.proofs.fewest.keys_allowed.Goals as goal

pub returns-in_default-clause-still : goal.returns-in_default-clause-still
returns-in_default-clause-still g c = (c.requires.0, c.kind_of.ensures.answers _ c.requires.1)

pub returns-then-is_empty-clause-still : goal.returns-then-is_empty-clause-still
returns-then-is_empty-clause-still g c = (c.requires.0, c.kind_of.ensures.answers _ c.requires.1)

pub about-requires : goal.about-requires
about-requires g c = (c.requires.0, c.kind_of.ensures.answers _ c.requires.1)

pub returns-clause-still : goal.returns-clause-still
returns-clause-still g c = (c.requires.0, c.about.ensures.answers _ (c.kind_of.ensures.answers _ c.requires.1))
