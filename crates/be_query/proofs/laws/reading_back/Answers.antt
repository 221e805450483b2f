use Rattle.be_query.proofs.Back.{only_limits}
use Rattle.be_query.proofs.laws.reading_back.Goals as goal

pub returns : goal.returns
returns c = only_limits
