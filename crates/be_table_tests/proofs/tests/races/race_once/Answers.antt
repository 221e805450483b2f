use denote.Param.Send.{sendable}
use Rattle.std.proofs.Crossing.{crosses}
use Rattle.be_table.proofs.Crosses.{seat_send, table_sync}
use Rattle.be_table_tests.proofs.tests.races.race_once.Goals as goal

pub join-first-requires-send-F : goal.join-first-requires-send-F
join-first-requires-send-F g c κs within = search (sendable, crosses, seat_send, table_sync) depth 20
