use Rattle.example_history.proofs.sign_at_once.Goals as goal

pub returns-clause-ann : goal.returns-clause-ann
returns-clause-ann g c = c.join.ensures.first

pub returns-clause-bob : goal.returns-clause-bob
returns-clause-bob g c = c.join.ensures.second
