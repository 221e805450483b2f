use Rattle.be_query.proofs.Worked.{number_clean}
use Rattle.be_query.proofs.rpn.know_uint.Goals as goal

pub returns : goal.returns
returns c = number_clean c.args.n (c.ranges.n.fits)
