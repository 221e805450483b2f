use Rattle.be_order.proofs.costs.+nodes_about.Goals as goal

pub returns-then-is_none-clause-still : goal.returns-then-is_none-clause-still
returns-then-is_none-clause-still g t c = (c.requires.0, c.kind_of.ensures.answers c.requires.0 c.requires.1)

pub about-requires : goal.about-requires
about-requires g t c = (c.requires.0, c.kind_of.ensures.answers c.requires.0 c.requires.1)

pub returns-else-is_none-clause-still : goal.returns-else-is_none-clause-still
returns-else-is_none-clause-still g t c = (c.requires.0, c.about.ensures.answers c.requires.0 (c.kind_of.ensures.answers c.requires.0 c.requires.1))
