use Rattle.be_store.proofs.Alone.{refused_alone, same_seen}
use Rattle.be_store.proofs.laws.alone_refused.Goals as goal

pub returns-clause-seen : goal.returns-clause-seen
returns-clause-seen c a d alone then h = same_seen a d alone then h.more h.mine

pub returns-clause-reason : goal.returns-clause-reason
returns-clause-reason c a d ops e alone h = refused_alone a d ops e alone h
