use Rattle.std.proofs.Common.{arith}
use Rattle.be_paged_reading.proofs.Reported.{over_cut}
use Rattle.be_paged_reading.proofs.cells.put_at.Goals as goal

pub returns-else-items-room : goal.returns-else-items-room
returns-else-items-room g c = λ before all len is.
    over_cut before all c.args.items.now _ c.args.places.now c.args.at len is (omega arith) (omega arith) c.copy_from_slice-else-items-room.ensures.after
