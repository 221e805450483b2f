use Rattle.be_table.proofs.Worked.{give_kept}
use Rattle.be_table.proofs.rooms.WritingRoom.give_up.Goals as goal

pub returns-clause-kept : goal.returns-clause-kept
returns-clause-kept c = give_kept c.args.self.now c.give_up.new.self c.args.page c.give_up.ensures.write c.give_up.ensures.moves
