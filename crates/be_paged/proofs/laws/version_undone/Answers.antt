use Rattle.be_paged.proofs.StayingVersion.{version_stays}
use Rattle.be_paged.proofs.laws.version_undone.Goals as goal

pub returns : goal.returns
returns c = λ start undone before words page volume clean was version. version_stays start undone before words clean was page volume version
