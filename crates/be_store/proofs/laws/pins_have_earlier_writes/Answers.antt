use Rattle.std.proofs.Common.{arith}
use Rattle.be_store.proofs.Learned.{current_later}
use Rattle.be_store.proofs.laws.pins_have_earlier_writes.Goals as goal

pub returns-clause-writes : goal.returns-clause-writes
returns-clause-writes g a c b d ops n m dones h p front =
    let l = current_later c d _ _ h.moves.at p.moves.at front in omega (arith, h.number, p.number, p.moves.at.so, l)

pub returns-clause-pins : goal.returns-clause-pins
returns-clause-pins g a c b d n m h p front =
    let l = current_later c d _ _ h.moves.at p.moves.at front in omega (arith, h.number, p.number, p.moves.at.so, l)
