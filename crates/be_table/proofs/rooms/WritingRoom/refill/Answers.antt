use Rattle.be_table.proofs.Worked.{fill_kept}
use Rattle.be_table.proofs.rooms.WritingRoom.refill.Goals as goal

pub returns-clause-kept : goal.returns-clause-kept
returns-clause-kept c = fill_kept c.args.self.now c.refill.new.self c.args.page c.args.i c.args.word c.refill.ensures.write.0 c.refill.ensures.write.1
