use Rattle.be_pattern.proofs.Drawn.{pattern_on, canonical_on}
use Rattle.be_pattern.proofs.laws.characters.Goals as goal

pub returns-clause-named : goal.returns-clause-named
returns-clause-named c = pattern_on

pub returns-clause-printed : goal.returns-clause-printed
returns-clause-printed c = canonical_on
