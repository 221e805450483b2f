use Rattle.be_change.proofs.Written.{read_change, stays_learning, stays_writing}
use Rattle.be_change.proofs.laws.stays.Goals as goal

pub returns : goal.returns
returns c = record { read = read_change; learn = stays_learning; write = stays_writing }
