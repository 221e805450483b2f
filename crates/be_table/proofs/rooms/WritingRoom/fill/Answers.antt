use Rattle.be_table.proofs.Worked.{fill_kept}
use Rattle.be_table.proofs.rooms.WritingRoom.fill.Goals as goal

pub returns-clause-kept : goal.returns-clause-kept
returns-clause-kept c = fill_kept c.args.self.now c.fill.new.self c.args.page c.args.i c.args.word c.fill.ensures.write.0 c.fill.ensures.write.1
