use Rattle.be_session.proofs.Spare.{new_last, new_rest, room_left}
use Rattle.be_session.proofs.passes.take_last.Goals as goal

pub returns-clause-rest : goal.returns-clause-rest
returns-clause-rest c = new_rest c.args._store.now c.args.passes.now.items c.pop.new.self.items c.pop.result c.pop.ensures.items c.requires

pub returns-clause-pass : goal.returns-clause-pass
returns-clause-pass c = new_last c.args._store.now c.args.passes.now.items c.pop.new.self.items c.pop.result _ c.pop.ensures.items c.pop.new.self.ok.0
    c.requires

pub returns-clause-room : goal.returns-clause-room
returns-clause-room c = room_left c.pop.result _ _ _ _ c.pop.ensures.cases c.pop.ensures.capacity c.args.passes.now.ok.1
