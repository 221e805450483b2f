use Rattle.be_order.proofs.odds.+is_true_by_odds.Goals as goal

pub returns-in-Leaf-clause-still : goal.returns-in-Leaf-clause-still
returns-in-Leaf-clause-still g t c = (c.requires.0, c.holds.ensures.answers c.requires.0 c.requires.1)
