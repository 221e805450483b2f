use Rattle.be_session.proofs.Spare.{new_more}
use Rattle.be_session.proofs.passes.put_last.Goals as goal

pub returns-clause-new : goal.returns-clause-new
returns-clause-new c =
    new_more c.args._store.now c.args.passes.now.items c.push_reserved.new.self.items c.args.pass _ c.push_reserved.ensures.items c.args.passes.now.ok.0
    c.requires.new c.requires.pass c.requires.unused
