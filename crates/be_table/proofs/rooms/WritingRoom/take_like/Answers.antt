use Rattle.be_table.proofs.PageStates.{full_stays}
use Rattle.be_table.proofs.Worked.{take_kept}
use Rattle.be_table.proofs.rooms.WritingRoom.take_like.Goals as goal

pub returns-clause-err : goal.returns-clause-err
returns-clause-err c = full_stays c.take_like.result c.args.self.now c.take_like.new.self c.take_like.ensures.full

pub returns-clause-kept : goal.returns-clause-kept
returns-clause-kept c = take_kept c.take_like.result c.args.self.now c.take_like.new.self c.take_like.ensures.ok c.take_like.ensures.full
