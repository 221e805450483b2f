use Rattle.be_store.proofs.Alone.{written}
use Rattle.be_store.proofs.laws.alone.Goals as goal

pub returns-clause-written : goal.returns-clause-written
returns-clause-written c = written c.args.pass.now.knows (record { pass = c.seen_is_legal.ensures.pass; one = cc })
