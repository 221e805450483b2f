use Rattle.be_plan.proofs.Integers.{number_ends}
use Rattle.be_plan.proofs.narrowing.narrow_by_integer.Goals as goal

pub narrow_by-requires : goal.narrow_by-requires
narrow_by-requires g c = (c.requires.0, number_ends g.bound c.args.bytes.now c.requires.1)
