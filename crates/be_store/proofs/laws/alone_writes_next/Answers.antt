use Rattle.be_store.proofs.Alone.{writes_next}
use Rattle.be_store.proofs.laws.alone_writes_next.Goals as goal

pub returns : goal.returns
returns c = writes_next c.replay_push.ensures
