use Rattle.be_table.proofs.PageStates.{full_stays}
use Rattle.be_table.proofs.Worked.{take_kept}
use Rattle.be_table.proofs.rooms.WritingRoom.take.Goals as goal

pub returns-clause-err : goal.returns-clause-err
returns-clause-err c = full_stays c.take.result c.args.self.now c.take.new.self c.take.ensures.full

pub returns-clause-kept : goal.returns-clause-kept
returns-clause-kept c = take_kept c.take.result c.args.self.now c.take.new.self c.take.ensures.ok c.take.ensures.full
